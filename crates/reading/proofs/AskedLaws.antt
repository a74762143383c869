-- One more word among those that were seen. Assumes nothing.
use Rattle.std.proofs.Common.{◌≡◌, ℕ, ◌+◌, List, [], ◌∷◌, length, refl, ap, ◌∙◌, arith}
use Rattle.reading.specs.Asked.{nothing, noted, seen}
use Rattle.reading.specs.declared.asked.Asked.{Asked}
use Rattle.reading.specs.declared.arguments.Kind.{Kind}

-- The words up to place i are known, and ask for this.
abbrev pub Known : Asked → ℕ → Type 0
Known a i = (ks : List Kind) × (a ≡ seen ks) × (i ≡ length ks + 1)

pub one_more : (a b : Asked) (k : Kind) (i : ℕ) → b ≡ noted a k i → Known a i → Known b (i + 1)
unfolding seen
one_more a b k i e (ks, f, p) = (k ∷ ks, e ∙ ap (λ x. noted x k i) f ∙ ap (noted (seen ks) k) p, omega (arith, p))

pub none_seen : nothing ≡ seen []
unfolding seen
none_seen = refl
