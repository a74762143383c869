-- What the refusals that all fields share leave to decide. Assumes nothing.
use mathlib.Core.Path.{◌≡◌, refl, ap}
use mathlib.Core.Bool.{Bool, true, false, cond}
use Prim.Native.Nat.{ℕ, ◌≤◌, ◌<◌}
use native.Mathlib.Omega.{arith}
use lib.Dec.{ltb, eqb}
use borrow.Author.Tests.{ltb-false, eqb-false, le-ltb, ne_eqb}
use Rattle.std.specs.Prelude.{Result, Ok, Err}
use Rattle.bits.specs.Told.{Told, Refused, size, width}
use Rattle.bits.specs.Refusals.{number_of, carried_by}
use Rattle.bits.specs.Steps.{limits_of}
use Rattle.bits.specs.declared.refusal.Refusal.{Refusal}
use Rattle.bits.specs.declared.refusal.Refusal.TheVariants.{Size, Width}

-- what is answered where the limits are kept, and else their refusal
abbrev pub by_limits : {A : Type 0} → Result (Unit {0}) Refusal → Told A → Told A
by_limits (Ok u) z = z
by_limits (Err r) z = Refused (number_of r) (carried_by r)

module _ (n w : ℕ) where
  -- the first lines of every answer
  pub by_limits_lem : {A : Type 0} (z : Told A) → cond (ltb 1023 n) size (cond (eqb w 0) width (cond (ltb 64 w) width z)) ≡ by_limits (limits_of n w) z
  unfolding limits_of
  by_limits_lem {A} z = go (ltb 1023 n) (eqb w 0) (ltb 64 w)
    where
      go : (a b c : Bool) → cond a size (cond b width (cond c width z)) ≡ by_limits (cond a (Err Size) (cond b (Err Width) (cond c (Err Width) (Ok (tt {0}))))) z
      go true b c = refl
      go false true c = refl
      go false false true = refl
      go false false false = refl

  -- the data and the width are within their limits
  pub kept : limits_of n w ≡ Ok (tt {0}) → (n ≤ 1023) × (1 ≤ w) × (w ≤ 64)
  unfolding limits_of
  kept e = go (ltb 1023 n) refl (eqb w 0) refl (ltb 64 w) refl e
    where
      go : (a : Bool) → ltb 1023 n ≡ a → (b : Bool) → eqb w 0 ≡ b → (c : Bool) → ltb 64 w ≡ c
          → cond a (Err Size) (cond b (Err Width) (cond c (Err Width) (Ok (tt {0})))) ≡ Ok (tt {0}) → (n ≤ 1023) × (1 ≤ w) × (w ≤ 64)
      go true ea b eb c ec q = let z : ◌≡◌ {A = ℕ} 0 1 = cc in absurd (omega arith)
      go false ea true eb c ec q = let z : ◌≡◌ {A = ℕ} 0 1 = cc in absurd (omega arith)
      go false ea false eb true ec q = let z : ◌≡◌ {A = ℕ} 0 1 = cc in absurd (omega arith)
      go false ea false eb false ec q =
          let h = ltb-false 1023 n ea in
          let l = ltb-false 64 w ec in
          let k = eqb-false w 0 eb in
          (h, omega arith, l)

  pub are_kept : n ≤ 1023 → 1 ≤ w → w ≤ 64 → limits_of n w ≡ Ok (tt {0})
  unfolding limits_of
  are_kept h k l =
      let z : (w ≡ 0 → ⊥) = λ e. omega arith in
      rw (le-ltb 1023 n h, ne_eqb w 0 z, le-ltb 64 w l)

  -- the refusal is Size or Width, and not Short
  pub not_short : {r : Refusal} → limits_of n w ≡ Err r → 1 < number_of r
  unfolding limits_of
  not_short {r} e = go (ltb 1023 n) (eqb w 0) (ltb 64 w) e
    where
      numbered : Result (Unit {0}) Refusal → ℕ
      numbered (Ok u) = 0
      numbered (Err q) = number_of q

      go : (a b c : Bool) → cond a (Err Size) (cond b (Err Width) (cond c (Err Width) (Ok (tt {0})))) ≡ Err r → 1 < number_of r
      go true b c q = let z : 9 ≡ number_of r = ap numbered q in omega arith
      go false true c q = let z : 2 ≡ number_of r = ap numbered q in omega arith
      go false false true q = let z : 2 ≡ number_of r = ap numbered q in omega arith
      go false false false q = let z : ◌≡◌ {A = ℕ} 0 1 = cc in absurd (omega arith)
