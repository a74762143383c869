-- Laws of one frame: its parts as the code reads them, which case of the check holds, and what a good one tells. Assumes nothing.
use mathlib.Core.Path.{◌≡◌, refl, sym, ap, ap₂, ◌∙◌}
use mathlib.Core.List.{List, []}
use mathlib.Core.Option.{Option, none, some}
use Prim.Native.Nat.{ℕ, ◌+◌, ◌-◌, ◌*◌, ◌/◌, ◌%◌, ◌^◌, ◌≤◌, ◌<◌}
use native.Mathlib.Omega.{arith}
use native.Mathlib.Decide.{dec_lt, ℕ_discrete}
use lib.ListN.{length, get_or, take, drop}
use lib.Pow.{high, low}
use borrow.Author.Tests.{lt-ltb, le-ltb, eq-eqb, ne_eqb}
use Rattle.bits.specs.Told.{Accepted, Refused, no_preamble, bad_check, incomplete}
use Rattle.bits.specs.Field.{field}
use Rattle.bits.specs.Crc.{crc}
use Rattle.bits.proofs.FieldLaws.{field_lt, field_split, byte_field}
use Rattle.frames.specs.Frame.{data_length, sent_sum, own_sum, number_of, Whole, whole_of, check}

-- ---- fields by bytes

-- the length is the low ten bits of the first three bytes
pub length_low : (s : List ℕ) → field s 0 24 % 2 ^ 10 ≡ data_length s
length_low s = ap (λ (x : ℕ). x % 2 ^ 10) (field_split s 0 14 10) ∙ low (field s 0 14) 10 (field_lt s 14 10)

pub length_small : (s : List ℕ) → data_length s ≤ 1023
length_small s = omega (arith, field_lt s 14 10)

-- frames that agree in the length, the number and the checksum of what they carry
pub same_frame : {l n : ℕ} {p q : Option ℕ} {c d : ℕ} → l ≡ n → p ≡ q → c ≡ d
    → ◌≡◌ {A = Whole} (record { length = l + 6; carried = l; number = p; sum = c }) (record { length = n + 6; carried = n; number = q; sum = d })
same_frame e f g = rw (e, f, g)

-- ---- which case of the check holds

module _ (s : List ℕ) where
  pub too_few : length s < 6 → incomplete ≡ check s
  unfolding check
  too_few h = simp (lt-ltb _ _ h)

  module _ (h : 6 ≤ length s) where
    pub no_start : (get_or s 0 0 ≡ 0xD3 → ⊥) → no_preamble ≡ check s
    unfolding check
    no_start n = simp (le-ltb _ _ h, ne_eqb _ _ n)

    module _ (e : get_or s 0 0 ≡ 0xD3) where
      pub is_cut : length s < data_length s + 6 → incomplete ≡ check s
      unfolding check
      is_cut l = simp (le-ltb _ _ h, eq-eqb _ _ e, lt-ltb _ _ l)

      module _ (l : data_length s + 6 ≤ length s) where
        pub sums_differ : (own_sum s ≡ sent_sum s → ⊥) → bad_check (sent_sum s) (own_sum s) ≡ check s
        unfolding check
        sums_differ q = simp (le-ltb _ _ h, eq-eqb _ _ e, le-ltb _ _ l, ne_eqb _ _ q)

        pub sums_agree : own_sum s ≡ sent_sum s → Accepted (whole_of s) ≡ check s
        unfolding check
        sums_agree q = simp (le-ltb _ _ h, eq-eqb _ _ e, le-ltb _ _ l, eq-eqb _ _ q)

-- the message number's two cases: the high twelve bits of the first two bytes a and b, if they are there
pub number_absent : (d : List ℕ) → length d < 2 → none ≡ number_of d
number_absent d h = rw (lt-ltb _ _ h)

two_field : (d : List ℕ) → field d 0 12 ≡ (get_or d 0 0 % 2 ^ 8 * 2 ^ 8 + get_or d 1 0 % 2 ^ 8) / 2 ^ 4
two_field d =
    sym (high (field d 0 12) 4 (field_lt d 12 4)) ∙ ap (λ (x : ℕ). x / 2 ^ 4) (sym (field_split d 0 12 4))
    ∙ ap (λ (x : ℕ). x / 2 ^ 4) (field_split d 0 8 8 ∙ ap₂ (λ (x y : ℕ). x * 2 ^ 8 + y) (byte_field d 0 0 refl) (byte_field d 8 1 refl))

pub number_is : (d : List ℕ) (a b : ℕ) → 2 ≤ length d → a ≡ get_or d 0 0 → b ≡ get_or d 1 0 → a < 256 → b < 256 → some ((a * 0x100 + b) / 16) ≡ number_of d
number_is d a b h ea eb la lb =
    let e : (a * 0x100 + b) / 16 ≡ field d 0 12 = omega (arith, two_field d) in
    ap some e ∙ rw (le-ltb _ _ h)

-- ---- the same, by what the code has in hand: the length n, the sum own that it took of the bytes and the sum sent that it read

-- the first three bytes r give the length
pub length_at : (s : List ℕ) (r : ℕ) → r ≡ field s 0 24 → r % 2 ^ 10 ≡ data_length s
length_at s r e = ap (λ (x : ℕ). x % 2 ^ 10) e ∙ length_low s

module _ (s : List ℕ) (n : ℕ) (h : 6 ≤ length s) (e : get_or s 0 0 ≡ 0xD3) (en : n ≡ data_length s) where
  pub cut_at : length s < n + 6 → incomplete ≡ check s
  cut_at l = is_cut s h e (omega arith)

  module _ (own sent : ℕ) (l : n + 6 ≤ length s) (eo : own ≡ crc (take (n + 3 - 0) s)) (es : sent ≡ field s ((n + 3) * 8) 24) where
    own_is : own_sum s ≡ own
    own_is = let k : data_length s + 3 ≡ n + 3 - 0 = omega arith in ap (λ (m : ℕ). crc (take m s)) k ∙ sym eo

    sent_is : sent_sum s ≡ sent
    sent_is = ap (λ (k : ℕ). field s ((k + 3) * 8) 24) (sym en) ∙ sym es

    pub differ_at : (own ≡ sent → ⊥) → bad_check sent own ≡ check s
    differ_at q = ap₂ bad_check (sym sent_is) (sym own_is) ∙ sums_differ s h e (omega arith) (λ p. q (sym own_is ∙ p ∙ sent_is))

    pub agree_at : own ≡ sent → (m : Option ℕ) → m ≡ number_of (take (n + 3 - 3) (drop 3 s))
        → Accepted (record { length = n + 6; carried = n; number = m; sum = sent }) ≡ check s
    agree_at q m em =
        let k : n + 3 - 3 ≡ data_length s = omega arith in
        ap Accepted (same_frame en (em ∙ ap (λ (i : ℕ). number_of (take i (drop 3 s))) k) (sym sent_is)) ∙ sums_agree s h e (omega arith) (own_is ∙ q ∙ sym sent_is)

-- ---- what a good frame tells

pub record Good (s : List ℕ) (w : Whole) : Type 0 where
  pub whole : w ≡ whole_of s
  pub start : get_or s 0 0 ≡ 0xD3
  pub fits : data_length s + 6 ≤ length s
  pub sums : own_sum s ≡ sent_sum s

module _ (s : List ℕ) (w : Whole) (q : check s ≡ Accepted w) where
  not_refused : (n : ℕ) (carried : List ℕ) → Refused n carried ≡ check s → ⊥
  not_refused n carried p = let z : ◌≡◌ {A = ℕ} 0 1 = cc in omega arith

  same_whole : Accepted (whole_of s) ≡ check s → w ≡ whole_of s
  same_whole p = cc

  pub good_tells : Good s w
  good_tells = few (dec_lt (length s) 6)
    where
      sums_of : 6 ≤ length s → get_or s 0 0 ≡ 0xD3 → data_length s + 6 ≤ length s → Dec (own_sum s ≡ sent_sum s) → Good s w
      sums_of h e l (yes c) = record { whole = same_whole (sums_agree s h e l c); start = e; fits = l; sums = c }
      sums_of h e l (no c) = absurd (not_refused 14 _ (sums_differ s h e l c))

      cut : 6 ≤ length s → get_or s 0 0 ≡ 0xD3 → Dec (length s < data_length s + 6) → Good s w
      cut h e (yes l) = absurd (not_refused 12 [] (is_cut s h e l))
      cut h e (no l) = sums_of h e (omega arith) (ℕ_discrete (own_sum s) (sent_sum s))

      start_of : 6 ≤ length s → Dec (get_or s 0 0 ≡ 0xD3) → Good s w
      start_of h (yes e) = cut h e (dec_lt (length s) (data_length s + 6))
      start_of h (no e) = absurd (not_refused 10 [] (no_start s h e))

      few : Dec (length s < 6) → Good s w
      few (yes h) = absurd (not_refused 12 [] (too_few s h))
      few (no h) = start_of (omega arith) (ℕ_discrete (get_or s 0 0) 0xD3)

pub good_passes : (s : List ℕ) (w : Whole) → Good s w → check s ≡ Accepted w
good_passes s w g = sym (ap Accepted g.whole ∙ sums_agree s (omega arith) g.start g.fits g.sums)
