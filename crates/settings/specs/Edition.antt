-- The editions of the code. Assumes nothing.
use Rattle.std.specs.Prelude.{◌≡◌, false, ℕ, Result, MatchResult}
use Rattle.bits.specs.declared.refusal.Refusal.{Refusal}
use Rattle.bits.specs.declared.refusal.Refusal.TheVariants.{Kind}
use Rattle.settings.specs.Block.{known}
use Rattle.settings.specs.declared.layout.Edition.{Edition}
use Rattle.settings.specs.declared.layout.Edition.TheVariants.{First, Second}

abbrev pub number_of : Edition → ℕ
number_of First = 1
number_of Second = 2

-- what is made of a number: the edition that has it, or Kind where there is none
abbrev pub Numbered : ℕ → Result Edition Refusal → Type 0
Numbered n r = MatchResult r (λ e. (number_of e ≡ n)) (λ x. (x ≡ Kind) × (known n ≡ false))
