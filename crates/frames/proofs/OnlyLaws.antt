-- For each public function of one frame, of the scan and of the listing: two answers that its statement allows are equal. Assumes nothing.
use mathlib.Core.Path.{◌≡◌, sym, ap, ◌∙◌}
use mathlib.Core.List.{List}
use Prim.Native.Nat.{ℕ}
use Rattle.std.specs.Prelude.{Option, Result}
use Rattle.bits.specs.declared.refusal.Refusal.{Refusal}
use Rattle.bits.specs.Outcome.{outcome}
use Rattle.bits.specs.Part.{Lent, lent, within}
use Rattle.frames.specs.Frame.{number_of, check, frame_part, data_part, inside_part, write_frame}
use Rattle.frames.specs.Rtcm.{rtcm}
use Rattle.frames.specs.Walk.{next_from}
use Rattle.frames.specs.Listing.{list_of}
use Rattle.frames.specs.Call.{Scanner, fresh, afresh, order_of}
use Rattle.frames.specs.Answers.{told_number, told_checked, told_framed, told_next, told_order, known}
use Rattle.frames.specs.declared.frame.Frame.{Frame}
use Rattle.frames.specs.declared.scan.Next.{Next}
use Rattle.frames.specs.declared.list.Listing.{Listing}
use Rattle.frames.specs.declared.scanner.Scanner as code
use Rattle.frames.proofs.ToldLaws.{number_one_to_one, checked_one_to_one, next_one_to_one, order_one_to_one, only_framed, only_known}

pub only_check : (s : List ℕ) {x y : Result Frame Refusal} → told_checked x ≡ check s → told_checked y ≡ check s → x ≡ y
only_check s e f = checked_one_to_one.same (e ∙ sym f)

pub only_number_of : (d : List ℕ) {x y : Option ℕ} → told_number x ≡ number_of d → told_number y ≡ number_of d → x ≡ y
only_number_of d {x} {y} e f = number_one_to_one x y (e ∙ sym f)

-- a part that is handed out: where it points, and its bytes
only_part : (l : Lent) {p q : ℕ × ℕ} {s t : List ℕ} → lent p s ≡ l → lent q t ≡ l → (p ≡ q) × (s ≡ t)
only_part l e f = (ap (λ (x : Lent). x.pointer) (e ∙ sym f), ap (λ (x : Lent). x.bytes) (e ∙ sym f))

module _ (at : ℕ × ℕ) (bytes : List ℕ) {p q : ℕ × ℕ} {s t : List ℕ} where
  pub only_frame_part : lent p s ≡ within at (frame_part bytes) → lent q t ≡ within at (frame_part bytes) → (p ≡ q) × (s ≡ t)
  only_frame_part = only_part (within at (frame_part bytes))

  pub only_data_part : lent p s ≡ within at (data_part bytes) → lent q t ≡ within at (data_part bytes) → (p ≡ q) × (s ≡ t)
  only_data_part = only_part (within at (data_part bytes))

  pub only_data_of : lent p s ≡ within at (inside_part bytes) → lent q t ≡ within at (inside_part bytes) → (p ≡ q) × (s ≡ t)
  only_data_of = only_part (within at (inside_part bytes))

pub only_write : (d out : List ℕ) {x y : Result ℕ Refusal} {s t : List ℕ} → outcome (told_framed x) s ≡ write_frame d out → outcome (told_framed y) t ≡ write_frame d out → (x ≡ y) × (s ≡ t)
only_write d out = only_framed (write_frame d out)

pub only_next_frame : (s : List ℕ) (from : ℕ) {x y : Next} → told_next x ≡ next_from rtcm s from → told_next y ≡ next_from rtcm s from → x ≡ y
only_next_frame s from e f = next_one_to_one.same (e ∙ sym f)

-- what a listing tells, and both lists
module _ (mode : ℕ) (h p starts lengths : List ℕ) {x y : Listing} {s t u v : List ℕ} where
  pub only_frames_across : (x, s, u) ≡ list_of mode h p starts lengths → (y, t, v) ≡ list_of mode h p starts lengths → (x ≡ y) × (s ≡ t) × (u ≡ v)
  only_frames_across e f = let same = e ∙ sym f in (ap (λ z. z.0) same, ap (λ z. z.1) same, ap (λ z. z.2) same)

pub only_fresh : (mode : ℕ) {x y : code.Scanner} → known x ≡ fresh mode → known y ≡ fresh mode → x ≡ y
only_fresh mode = only_known (fresh mode)

pub only_reset : (s : Scanner) {x y : code.Scanner} → known x ≡ afresh s → known y ≡ afresh s → x ≡ y
only_reset s = only_known (afresh s)

pub only_in_order : (a : List ℕ) (s : Scanner) {x y : Result (Unit {0}) Refusal} → told_order x ≡ order_of a s → told_order y ≡ order_of a s → x ≡ y
only_in_order a s e f = order_one_to_one.same (e ∙ sym f)
