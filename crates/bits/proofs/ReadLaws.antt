-- Laws of reading a field: which answer is given when, and what an answer tells. Assumes nothing.
use mathlib.Core.Path.{◌≡◌, refl, sym, ap, ◌∙◌}
use mathlib.Core.Bool.{Bool, true, false, cond}
use mathlib.Core.List.{List, [], ◌∷◌}
use Prim.Native.Nat.{ℕ, ◌+◌, ◌-◌, ◌*◌, ◌^◌, ◌≤◌, ◌<◌}
use native.Mathlib.Decide.{dec_lt}
use native.Mathlib.Omega.{arith}
use lib.Dec.{ltb}
use lib.ListN.{length}
use borrow.Author.Tests.{lt-ltb, le-ltb}
use Rattle.bits.specs.Told.{Told, Accepted, Refused, size, width}
use Rattle.bits.specs.Field.{field, missing, cut_at, Reading, reading, read_by, read_unsigned}
use Rattle.bits.specs.Steps.{limits_of}
use Rattle.std.specs.Prelude.{Result, Ok, Err}
use Rattle.bits.specs.Refusals.{number_of, carried_by}
use Rattle.bits.specs.declared.refusal.Refusal.{Refusal}
use Rattle.bits.proofs.FieldLaws.{field_lt}
use Rattle.bits.proofs.LimitLaws.{by_limits, by_limits_lem, kept, are_kept, not_short}

-- ---- how many bits are missing

module _ (all p w : ℕ) where
  pub missing_all : all ≤ p → missing all p w ≡ w
  unfolding missing
  missing_all h = omega arith

  pub missing_some : p ≤ all → all < p + w → missing all p w ≡ w - (all - p)
  unfolding missing
  missing_some h l = omega arith

  -- from 1 to the width
  pub missing_within : all < p + w → 1 ≤ w → (1 ≤ missing all p w) × (missing all p w ≤ w)
  unfolding missing
  missing_within h l = (omega arith, omega arith)

-- ---- by the limits, as the code decides

module _ {A : Type 0} (meaning : ℕ → A) (s : List ℕ) (p w : ℕ) where
  -- what is left to decide within the limits
  rest : Told (Reading A)
  rest = cond (ltb (length s * 8) (p + w)) (cut_at (length s) p w) (Accepted (reading (meaning (field s p w)) (p + w)))

  read_on : read_by meaning s p w ≡ by_limits (limits_of (length s) w) rest
  unfolding read_by rest
  read_on = by_limits_lem (length s) w (cond (ltb (length s * 8) (p + w)) (cut_at (length s) p w) (Accepted (reading (meaning (field s p w)) (p + w))))

  pub read_refused : {r : Refusal} → limits_of (length s) w ≡ Err r → Refused (number_of r) (carried_by r) ≡ read_by meaning s p w
  read_refused e = rw (read_on, e)

  pub read_short : limits_of (length s) w ≡ Ok (tt {0}) → length s * 8 < p + w → cut_at (length s) p w ≡ read_by meaning s p w
  unfolding rest
  read_short e h = rw (read_on, e, lt-ltb _ _ h)

  pub read_value : limits_of (length s) w ≡ Ok (tt {0}) → p + w ≤ length s * 8 → Accepted (reading (meaning (field s p w)) (p + w)) ≡ read_by meaning s p w
  unfolding rest
  read_value e h = rw (read_on, e, le-ltb _ _ h)

  -- ---- by the sizes, for callers

  module _ (few : length s ≤ 1023) (low : 1 ≤ w) (high : w ≤ 64) where
    pub reads_value : p + w ≤ length s * 8 → read_by meaning s p w ≡ Accepted (reading (meaning (field s p w)) (p + w))
    reads_value h = sym (read_value (are_kept (length s) w few low high) h)

    pub reads_short : length s * 8 < p + w → read_by meaning s p w ≡ cut_at (length s) p w
    reads_short h = sym (read_short (are_kept (length s) w few low high) h)

    -- a field that is refused there is cut short
    pub refused_short : {n : ℕ} {carried : List ℕ} → read_by meaning s p w ≡ Refused n carried → read_by meaning s p w ≡ cut_at (length s) p w
    refused_short e = go (dec_lt (length s * 8) (p + w))
      where
        go : Dec (length s * 8 < p + w) → read_by meaning s p w ≡ cut_at (length s) p w
        go (yes h) = reads_short h
        go (no h) = let d = reads_value (omega arith) in let z : ◌≡◌ {A = ℕ} 0 1 = cc in absurd (omega arith)

    -- and ends behind the data
    pub refused_behind : {n : ℕ} {carried : List ℕ} → read_by meaning s p w ≡ Refused n carried → length s * 8 < p + w
    refused_behind e = go (dec_lt (length s * 8) (p + w))
      where
        go : Dec (length s * 8 < p + w) → length s * 8 < p + w
        go (yes h) = h
        go (no h) = let d = reads_value (omega arith) in let z : ◌≡◌ {A = ℕ} 0 1 = cc in absurd (omega arith)

    -- it is refused neither with Size nor with Width
    pub no_size : size ≡ read_by meaning s p w → ⊥
    no_size e = let d = e ∙ refused_short (sym e) in let z : ◌≡◌ {A = ℕ} 9 1 = cc in omega arith

    pub no_width : width ≡ read_by meaning s p w → ⊥
    no_width e = let d = e ∙ refused_short (sym e) in let z : ◌≡◌ {A = ℕ} 2 1 = cc in omega arith

  -- what an accepted field tells
  pub record Read (r : Reading A) : Type 0 where
    pub few : length s ≤ 1023
    pub low : 1 ≤ w
    pub high : w ≤ 64
    pub within : p + w ≤ length s * 8
    pub is : r ≡ reading (meaning (field s p w)) (p + w)

  pub read_tells : {r : Reading A} → read_by meaning s p w ≡ Accepted r → Read r
  unfolding rest
  read_tells {r} e = go (limits_of (length s) w) refl
    where
      go : (g : Result (Unit {0}) Refusal) → limits_of (length s) w ≡ g → Read r
      go (Err x) q = let d = read_refused q ∙ e in let z : ◌≡◌ {A = ℕ} 0 1 = cc in absurd (omega arith)
      go (Ok u) q = by (dec_lt (length s * 8) (p + w))
        where
          by : Dec (length s * 8 < p + w) → Read r
          by (yes h) = let d = read_short q h in let z : ◌≡◌ {A = ℕ} 0 1 = cc in absurd (omega arith)
          by (no h) =
              let f = kept (length s) w q in
              let d = read_value q (omega arith) in
              record { few = f.0; low = f.1; high = f.2; within = omega arith; is = cc }

  -- a field that is refused with Short carries its start, and says that from 1 to its width bits are missing
  pub short_tells : {place lack : ℕ} → read_by meaning s p w ≡ Refused 1 (place ∷ lack ∷ []) → (place ≡ p) × (lack ≡ missing (length s * 8) p w) × (1 ≤ lack) × (lack ≤ w)
  unfolding rest
  short_tells {place} {lack} e = go (limits_of (length s) w) refl
    where
      go : (g : Result (Unit {0}) Refusal) → limits_of (length s) w ≡ g → (place ≡ p) × (lack ≡ missing (length s * 8) p w) × (1 ≤ lack) × (lack ≤ w)
      go (Err x) q = let d = read_refused q ∙ e in let z : number_of x ≡ 1 = cc in absurd (omega (arith, not_short _ _ q))
      go (Ok u) q = by (dec_lt (length s * 8) (p + w))
        where
          by : Dec (length s * 8 < p + w) → (place ≡ p) × (lack ≡ missing (length s * 8) p w) × (1 ≤ lack) × (lack ≤ w)
          by (yes h) =
              let d = read_short q h ∙ e in
              let a : p ≡ place = cc in
              let b : missing (length s * 8) p w ≡ lack = cc in
              let r = missing_within (length s * 8) p w h (kept (length s) w q).1 in
              (sym a, sym b, omega arith, omega arith)
          by (no h) = let d = read_value q (omega arith) in let z : ◌≡◌ {A = ℕ} 0 1 = cc in absurd (omega arith)

-- ---- every reading is the unsigned one, understood

abbrev pub understood : {A : Type 0} → (ℕ → A) → Told (Reading ℕ) → Told (Reading A)
understood meaning (Accepted r) = Accepted (reading (meaning r.value) r.next)
understood meaning (Refused n carried) = Refused n carried

pub read_as : {A : Type 0} (meaning : ℕ → A) (s : List ℕ) (p w : ℕ) → read_by meaning s p w ≡ understood meaning (read_unsigned s p w)
unfolding rest
read_as meaning s p w = rw (read_on meaning s p w, read_on (λ v. v) s p w) (go (limits_of (length s) w) (ltb (length s * 8) (p + w)))
  where
    go : (g : Result (Unit {0}) Refusal) (b : Bool)
        → by_limits g (cond b (cut_at (length s) p w) (Accepted (reading (meaning (field s p w)) (p + w))))
        ≡ understood meaning (by_limits g (cond b (cut_at (length s) p w) (Accepted (reading (field s p w) (p + w)))))
    go (Err r) b = refl
    go (Ok u) true = refl
    go (Ok u) false = refl

module _ {A : Type 0} (meaning : ℕ → A) (s : List ℕ) (p w : ℕ) where
  -- from the unsigned number that the code has in hand
  pub value_as : {v q : ℕ} {x : A} → Accepted (reading v q) ≡ read_unsigned s p w → x ≡ meaning v → Accepted (reading x q) ≡ read_by meaning s p w
  value_as {v} {q} {x} e d = ap (λ (y : A). Accepted (reading y q)) d ∙ ap (understood meaning) e ∙ sym (read_as meaning s p w)

  pub refused_as : {n : ℕ} {carried : List ℕ} → Refused n carried ≡ read_unsigned s p w → Refused n carried ≡ read_by meaning s p w
  refused_as e = ap (understood meaning) e ∙ sym (read_as meaning s p w)

pub value_tells : (s : List ℕ) (p w : ℕ) {v q : ℕ} → Accepted (reading v q) ≡ read_unsigned s p w → (1 ≤ w) × (w ≤ 64) × (v < 2 ^ w)
value_tells s p w {v} {q} e =
    let t = read_tells (λ x. x) s p w (sym e) in
    let d : v ≡ field s p w = ap (λ r. r.value) t.is in
    (t.low, t.high, rw d (field_lt s p w))

-- a number that is read fits its width, and its field lies within the data
pub taken : (s : List ℕ) (p w : ℕ) {v q : ℕ} → read_unsigned s p w ≡ Accepted (reading v q) → (v < 2 ^ w) × (q ≡ p + w) × (q ≤ length s * 8)
taken s p w {v} {q} e =
    let t = read_tells (λ x. x) s p w e in
    let d : q ≡ p + w = ap (λ (r : Reading ℕ). r.next) t.is in
    ((value_tells s p w (sym e)).2, d, omega (arith, d, t.within))
