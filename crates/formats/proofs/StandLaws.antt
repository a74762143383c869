-- A run of fields that stands in two lists of bytes has the same bits in both, and so is written back to the same bits. Assumes nothing.
use mathlib.Core.Path.{◌≡◌, sym, ap, subst, ◌∙◌}
use mathlib.Core.List.{List, [], ◌∷◌}
use Prim.Native.Nat.{ℕ, ◌+◌, ◌-◌, ◌*◌, ◌/◌, ◌%◌, ◌^◌, ◌≤◌, ◌<◌}
use native.Mathlib.Decide.{dec_lt}
use native.Mathlib.Omega.{arith}
use lib.ListN.{length}
use Rattle.bits.specs.Told.{Accepted}
use Rattle.bits.specs.Outcome.{Outcome, outcome}
use Rattle.bits.specs.Field.{bit_at}
use Rattle.bits.specs.Fields.{Field, bits, total, put_all, Holds, Fit}
use Rattle.bits.proofs.FieldLaws.{field_lt}
use Rattle.bits.proofs.FieldsLaws.{put_all_holds, total_none, total_next, holds_first, holds_rest, fit_none, fit_next}
use Rattle.bits.proofs.SameBits.{field_bit}
use Rattle.formats.specs.WrittenBack.{WrittenBack}

-- a run that stands in two lists has the same bits in both
same_run : (s t : List ℕ) (p r : ℕ) (fs : List Field) → Holds s p fs → Holds t r fs → (k : ℕ) → k < total fs → bit_at s (p + k) ≡ bit_at t (r + k)
same_run s t p r [] a b k l = absurd (omega (arith, total_none))
same_run s t p r (bits w v ∷ fs) a b k l =
    go (dec_lt k w) (λ j. same_run s t (p + w) (r + w) fs (holds_rest s p w v fs a) (holds_rest t r w v fs b) j)
  where
    go : Dec (k < w) → ((j : ℕ) → j < total fs → bit_at s (p + w + j) ≡ bit_at t (r + w + j)) → bit_at s (p + k) ≡ bit_at t (r + k)
    go (yes h) more = sym (field_bit s p w k h) ∙ ap (λ (x : ℕ). x / 2 ^ (w - 1 - k) % 2) (holds_first s p w v fs a ∙ sym (holds_first t r w v fs b)) ∙ field_bit t r w k h
    go (no h) more =
        let e : p + w + (k - w) ≡ p + k = omega arith in
        let f : r + w + (k - w) ≡ r + k = omega arith in
        ap (bit_at s) (sym e) ∙ more (k - w) (omega (arith, l, total_next w v fs)) ∙ ap (bit_at t) f

-- a run that stands somewhere fits its fields
stands_fit : (s : List ℕ) (p : ℕ) (fs : List Field) → Holds s p fs → Fit fs
stands_fit s p [] h = fit_none
stands_fit s p (bits w v ∷ fs) h = fit_next w v fs (subst (λ (x : ℕ). x < 2 ^ w) (holds_first s p w v fs h) (field_lt s p w)) (stands_fit s (p + w) fs (holds_rest s p w v fs h))

-- what stands in s from p to q and is put into t from r on is written back
pub put_back : (s : List ℕ) (p q : ℕ) (t : List ℕ) (r : ℕ) (fs : List Field) {call : Outcome ℕ (List ℕ)} → Holds s p fs → total fs ≡ q - p → r + total fs ≤ length t * 8
    → call ≡ outcome (Accepted (r + total fs)) (put_all t r fs) → WrittenBack s p q r call
put_back s p q t r fs stands long room is =
    let holds = put_all_holds t r fs room (stands_fit s p fs stands) in
    record {
      end = ap (λ (x : Outcome ℕ (List ℕ)). x.answer) is ∙ ap (λ (n : ℕ). Accepted (r + n)) long;
      same = λ k l. ap (λ (x : Outcome ℕ (List ℕ)). bit_at x.areas (r + k)) is ∙ same_run (put_all t r fs) s r p fs holds stands k (omega (arith, long));
    }
