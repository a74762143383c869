-- Records of message 1059 that repeat the satellite and signal of an earlier one, found by a word of bits for each satellite. Assumes nothing.
use mathlib.Core.Path.{◌≡◌, refl, sym, ap, ◌∙◌}
use mathlib.Core.Bool.{Bool, true, false, cond, ◌&&◌}
use mathlib.Core.List.{List, [], ◌∷◌}
use Prim.Native.Nat.{ℕ, zero, suc, ◌+◌, ◌/◌, ◌%◌, ◌^◌, ◌≤◌, ◌<◌}
use native.Mathlib.Nat.{mod-lt, zero-lt-suc, zero-div}
use native.Mathlib.Numerals.{add-one}
use native.Mathlib.Decide.{ℕ_discrete}
use native.Mathlib.Omega.{arith}
use borrow.Author.Tests.{ltb-true, ltb-false, eq-eqb, ne_eqb}
use lib.Dec.{T, ltb, eqb, eqb→eq}
use lib.Bits.{bit_or, or_shr, or_mod, or_zero_l, or_zero_r, or_self}
use lib.ListN.{length, get_or, set, replicate, get_or-replicate}
use lib.Seq.{get_or-set_same, get_or-set_other}
use lib.IntN.{ℤ, pos}
use Rattle.bits.specs.Told.{duplicate}
use Rattle.formats.specs.Written.{fine}
use Rattle.messages.specs.Records.{Rec1059, rec1059, records1059}
use Rattle.messages.specs.StepsTable.{in_mask}
use Rattle.messages.specs.Writer.{is_among, first_repeat}
use Rattle.messages.specs.Write1059.{same_pair}
use Rattle.messages.proofs.TestLaws.{below, below_place}
use Rattle.messages.proofs.RecordLaws.{from1059, next1059, end1059}

-- ---- a word with one bit more

-- bit g of 2 ^ k, computed for all words of 32 bits
all_powers : T (below (λ k. below (λ g. eqb (2 ^ k / 2 ^ g % 2) (cond (eqb k g) 1 0)) 32) 32)
all_powers = tt

power_bit : (k g : ℕ) → k < 32 → g < 32 → 2 ^ k / 2 ^ g % 2 ≡ cond (eqb k g) 1 0
power_bit k g l m =
    eqb→eq _ _
    (below_place (λ g. eqb (2 ^ k / 2 ^ g % 2) (cond (eqb k g) 1 0)) 32
    (below_place (λ k. below (λ g. eqb (2 ^ k / 2 ^ g % 2) (cond (eqb k g) 1 0)) 32) 32 all_powers k l) g m)

or_one : (a : ℕ) → a < 2 → bit_or a 1 ≡ 1
or_one zero h = or_zero_l 1
or_one (suc zero) h = or_self 1
or_one (suc (suc a)) h = absurd (omega arith)

or_bit : (m k g : ℕ) → bit_or m (2 ^ k) / 2 ^ g % 2 ≡ bit_or (m / 2 ^ g % 2) (2 ^ k / 2 ^ g % 2)
or_bit m k g = ap (λ (x : ℕ). x % 2) (or_shr m (2 ^ k) g) ∙ or_mod (m / 2 ^ g) (2 ^ k / 2 ^ g) 1

pub one_more_bit : (m k g : ℕ) → k < 32 → in_mask (bit_or m (2 ^ k)) g ≡ cond (eqb k g) true (in_mask m g)
unfolding in_mask
one_more_bit m k g l = go (ltb g 32) refl
  where
    here : (b : Bool) → eqb k g ≡ b → 2 ^ k / 2 ^ g % 2 ≡ cond b 1 0 → eqb (bit_or m (2 ^ k) / 2 ^ g % 2) 1 ≡ cond b true (eqb (m / 2 ^ g % 2) 1)
    here true e p = ap (λ (x : ℕ). eqb x 1) (or_bit m k g ∙ ap (bit_or (m / 2 ^ g % 2)) p ∙ or_one (m / 2 ^ g % 2) (mod-lt (m / 2 ^ g) (zero-lt-suc 1)))
    here false e p = ap (λ (x : ℕ). eqb x 1) (or_bit m k g ∙ ap (bit_or (m / 2 ^ g % 2)) p ∙ or_zero_r (m / 2 ^ g % 2))

    go : (w : Bool) → ltb g 32 ≡ w → (ltb g 32 && eqb (bit_or m (2 ^ k) / 2 ^ g % 2) 1) ≡ cond (eqb k g) true (ltb g 32 && eqb (m / 2 ^ g % 2) 1)
    go true e = rw e (here (eqb k g) refl (power_bit k g l (ltb-true g 32 e)))
    go false e = let n : (k ≡ g → ⊥) = λ q. omega (arith, ltb-false g 32 e) in rw (e, ne_eqb k g n)

no_bit : (g : ℕ) → in_mask 0 g ≡ false
unfolding in_mask
no_bit g = ap (λ (x : ℕ). ltb g 32 && eqb (x % 2) 1) (zero-div (2 ^ g)) ∙ go (ltb g 32)
  where
    go : (b : Bool) → (b && eqb (0 % 2) 1) ≡ false
    go true = refl
    go false = refl

-- ---- along the records

-- before place i nothing repeats, and bit g of word a tells whether satellite a has signal g there
pub record Looked (sats gs : List ℕ) (zs : List ℤ) (words : List ℕ) (i : ℕ) : Type 0 where
  pub before : List Rec1059
  pub rest : first_repeat same_pair 0 [] (records1059 sats gs zs) ≡ first_repeat same_pair i before (from1059 sats gs zs i)
  pub told : (a g : ℕ) (z : ℤ) → a < 64 → in_mask (get_or words a 0) g ≡ is_among same_pair (rec1059 a g z) before

module _ (sats gs : List ℕ) (zs : List ℤ) where
  pub looked_none : Looked sats gs zs (replicate 64 0) 0
  unfolding is_among
  looked_none = record {
    before = [];
    rest = refl;
    told = λ a g z l. ap (λ (m : ℕ). in_mask m g) (get_or-replicate 64 a 0 0 l) ∙ no_bit g;
  }

  pub looked_end : (words : List ℕ) (i : ℕ) → Looked sats gs zs words i → length sats ≤ i → first_repeat same_pair 0 [] (records1059 sats gs zs) ≡ fine
  unfolding first_repeat
  looked_end words i d h = d.rest ∙ ap (first_repeat same_pair i d.before) (end1059 sats gs zs i h)

  module _ (lg : length sats ≡ length gs) (lz : length sats ≡ length zs) (words : List ℕ) (i : ℕ) (d : Looked sats gs zs words i) (h : i < length sats)
      (low : get_or sats i 0 < 64) where
    abbrev here : Rec1059
    here = rec1059 (get_or sats i 0) (get_or gs i 0) (get_or zs i (pos 0))

    next : first_repeat same_pair 0 [] (records1059 sats gs zs)
        ≡ cond (in_mask (get_or words (get_or sats i 0) 0) (get_or gs i 0)) (duplicate i) (first_repeat same_pair (suc i) (here ∷ d.before) (from1059 sats gs zs (suc i)))
    unfolding first_repeat
    next =
        d.rest
        ∙ ap (first_repeat same_pair i d.before) (next1059 sats gs zs lg lz i h)
        ∙ ap (λ (b : Bool). cond b (duplicate i) (first_repeat same_pair (suc i) (here ∷ d.before) (from1059 sats gs zs (suc i)))) (sym (d.told (get_or sats i 0) (get_or gs i 0) (get_or zs i (pos 0)) low))

    pub looked_here : in_mask (get_or words (get_or sats i 0) 0) (get_or gs i 0) ≡ true → first_repeat same_pair 0 [] (records1059 sats gs zs) ≡ duplicate i
    looked_here e = next ∙ ap (λ (b : Bool). cond b (duplicate i) (first_repeat same_pair (suc i) (here ∷ d.before) (from1059 sats gs zs (suc i)))) e

    pub looked_on : in_mask (get_or words (get_or sats i 0) 0) (get_or gs i 0) ≡ false → length words ≡ 64 → (w : ℕ)
        → ((n : ℕ) → in_mask w n ≡ cond (eqb (get_or gs i 0) n) true (in_mask (get_or words (get_or sats i 0) 0) n))
        → Looked sats gs zs (set words (get_or sats i 0) w) (i + 1)
    unfolding is_among
    looked_on e all w f = rw (add-one i) (record {
      before = here ∷ d.before;
      rest = next ∙ ap (λ (b : Bool). cond b (duplicate i) (first_repeat same_pair (suc i) (here ∷ d.before) (from1059 sats gs zs (suc i)))) e;
      told = λ a g z l. go a g z l (ℕ_discrete a (get_or sats i 0));
    })
      where
        go : (a g : ℕ) (z : ℤ) → a < 64 → Dec (a ≡ get_or sats i 0)
            → in_mask (get_or (set words (get_or sats i 0) w) a 0) g ≡ cond (eqb (get_or sats i 0) a && eqb (get_or gs i 0) g) true (is_among same_pair (rec1059 a g z) d.before)
        go a g z l (yes q) =
            ap (λ (m : ℕ). in_mask m g) (ap (λ (k : ℕ). get_or (set words (get_or sats i 0) w) k 0) q ∙ get_or-set_same words (get_or sats i 0) w 0 (omega (arith, all)))
            ∙ f g
            ∙ ap (λ (b : Bool). cond (eqb (get_or gs i 0) g) true b) (ap (λ (k : ℕ). in_mask (get_or words k 0) g) (sym q) ∙ d.told a g z l)
            ∙ ap (λ (b : Bool). cond (b && eqb (get_or gs i 0) g) true (is_among same_pair (rec1059 a g z) d.before)) (sym (eq-eqb (get_or sats i 0) a (sym q)))
        go a g z l (no q) =
            ap (λ (m : ℕ). in_mask m g) (get_or-set_other words (get_or sats i 0) a w 0 q)
            ∙ d.told a g z l
            ∙ ap (λ (b : Bool). cond (b && eqb (get_or gs i 0) g) true (is_among same_pair (rec1059 a g z) d.before)) (sym (ne_eqb (get_or sats i 0) a (λ r. q (sym r))))
