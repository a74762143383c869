-- The first that repeats an earlier one, along a list; and signals of message 1230 that do not repeat. Assumes nothing.
use mathlib.Core.Path.{◌≡◌, refl, ap}
use mathlib.Core.Bool.{Bool, true, false, cond}
use mathlib.Core.List.{List, [], ◌∷◌}
use Prim.Native.Nat.{ℕ, zero, suc, ◌+◌, ◌≤◌, ◌<◌}
use native.Mathlib.Numerals.{add-one}
use native.Mathlib.Omega.{arith}
use borrow.Author.Tests.{eqb-true}
use lib.ListN.{length, drop, get_or, drop_of_length-le}
use lib.Seq.{drop-cons}
use lib.IntN.{ℤ}
use lib.Dec.{eqb}
use Rattle.bits.specs.Told.{duplicate}
use Rattle.formats.specs.Written.{fine}
use Rattle.formats.proofs.WrittenLaws.{not_refused}
use Rattle.messages.specs.Records.{records1230}
use Rattle.messages.specs.Writer.{is_among, first_repeat, keep}
use Rattle.messages.specs.Write1230.{is_in}
use Rattle.messages.specs.Layout1230.{of_signal}

-- ---- along a list, one by one

module _ {K : Type 0} (same : K → K → Bool) (none : K) (ks : List K) where
  -- the first i of them, the last of these first
  abbrev pub seen_at : ℕ → List K
  seen_at zero = []
  seen_at (suc i) = get_or ks i none ∷ seen_at i

  module _ (i : ℕ) where
    repeat_cons : i < length ks → first_repeat same i (seen_at i) (drop i ks)
        ≡ cond (is_among same (get_or ks i none) (seen_at i)) (duplicate i) (first_repeat same (suc i) (seen_at (suc i)) (drop (suc i) ks))
    unfolding first_repeat
    repeat_cons h = ap (first_repeat same i (seen_at i)) (drop-cons ks i none h)

    pub repeat_here : i < length ks → is_among same (get_or ks i none) (seen_at i) ≡ true → first_repeat same i (seen_at i) (drop i ks) ≡ duplicate i
    repeat_here h e = rw (repeat_cons h, e)

    pub no_repeat_here : i < length ks → is_among same (get_or ks i none) (seen_at i) ≡ false
        → first_repeat same i (seen_at i) (drop i ks) ≡ first_repeat same (i + 1) (seen_at (i + 1)) (drop (i + 1) ks)
    no_repeat_here h e = rw (add-one i, repeat_cons h, e)

    pub no_more : length ks ≤ i → first_repeat same i (seen_at i) (drop i ks) ≡ fine
    unfolding first_repeat
    no_more h = ap (first_repeat same i (seen_at i)) (drop_of_length-le ks h)

-- what no repeat tells of the first and of the rest
pub none_first : {K : Type 0} (same : K → K → Bool) (i : ℕ) (k : K) (seen ks : List K) → first_repeat same i seen (k ∷ ks) ≡ fine
    → (is_among same k seen ≡ false) × (first_repeat same (suc i) (k ∷ seen) ks ≡ fine)
unfolding first_repeat
none_first same i k seen ks = not_refused 7 (i ∷ []) (is_among same k seen) (first_repeat same (suc i) (k ∷ seen) ks)

-- ---- signals of message 1230

-- where no signal repeats, those of the list have one bias, and no other has one
module _ (g : ℕ) where
  none_again : (i : ℕ) (seen gs : List ℕ) (zs : List ℤ) → first_repeat eqb i seen gs ≡ fine → is_in g seen ≡ true → of_signal g (records1230 gs zs) ≡ []
  unfolding of_signal is_among records1230
  none_again i seen [] zs f h = refl
  none_again i seen (k ∷ gs) [] f h = refl
  none_again i seen (k ∷ gs) (z ∷ zs) f h =
      let n = none_first eqb i k seen gs f in
      go (eqb k g) refl n.0 (none_again (suc i) (k ∷ seen) gs zs n.1)
    where
      go : (b : Bool) → eqb k g ≡ b → is_in k seen ≡ false → (cond b true (is_in g seen) ≡ true → of_signal g (records1230 gs zs) ≡ [])
          → keep b z (of_signal g (records1230 gs zs)) ≡ []
      go true q n ih = let e = ap (λ (x : ℕ). is_in x seen) (eqb-true k g q) in let x : ◌≡◌ {A = ℕ} 0 1 = cc in absurd (omega arith)
      go false q n ih = ih h

  pub once : (i : ℕ) (seen gs : List ℕ) (zs : List ℤ) → length gs ≡ length zs → first_repeat eqb i seen gs ≡ fine → length (of_signal g (records1230 gs zs)) ≡ cond (is_in g gs) 1 0
  unfolding of_signal is_among records1230
  once i seen [] zs l f = refl
  once i seen (k ∷ gs) [] l f = absurd (omega arith)
  once i seen (k ∷ gs) (z ∷ zs) l f =
      let n = none_first eqb i k seen gs f in
      go (eqb k g) (none_again (suc i) (k ∷ seen) gs zs n.1) (once (suc i) (k ∷ seen) gs zs (omega arith) n.1)
    where
      go : (b : Bool) → (cond b true (is_in g seen) ≡ true → of_signal g (records1230 gs zs) ≡ []) → length (of_signal g (records1230 gs zs)) ≡ cond (is_in g gs) 1 0
          → length (keep b z (of_signal g (records1230 gs zs))) ≡ cond (cond b true (is_in g gs)) 1 0
      go true n ih = omega (arith, ap length (n refl))
      go false n ih = ih
