-- The editions of the code. No promise to a caller rests on this file. Assumes nothing.
use Rattle.std.specs.Prelude.{◌≡◌, cond, ℕ, Result}
use Rattle.bits.specs.Told.{Told, Accepted, kind}
use Rattle.bits.specs.Refusals.{told}
use Rattle.bits.specs.declared.refusal.Refusal.{Refusal}
use Rattle.messages.specs.Signals1059.{is_edition}
use Rattle.messages.specs.declared.signals1059.Edition.{Edition}
use Rattle.messages.specs.declared.signals1059.Edition.TheVariants.{First, Second}

-- the number of an edition
abbrev pub edition_of : Edition → ℕ
edition_of First = 1
edition_of Second = 2

-- the edition with a number, or Kind
abbrev pub numbered : ℕ → Told ℕ
numbered edition = cond (is_edition edition) (Accepted edition) kind

abbrev pub IsEdition : ℕ → Result Edition Refusal → Type 0
IsEdition edition r = told edition_of r ≡ numbered edition
