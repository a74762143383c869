-- Framing data: which case of it holds, and that header, data and sum written one behind another are the frame. Assumes nothing.
use mathlib.Core.Path.{◌≡◌, refl, ap, ap₂, ◌∙◌}
use mathlib.Core.List.{List, ◌++◌}
use Prim.Native.Nat.{ℕ, suc, ◌+◌, ◌-◌, ◌/◌, ◌%◌, ◌^◌, ◌≤◌, ◌<◌}
use native.Mathlib.Omega.{arith}
use lib.ListN.{length, take, drop}
use lib.Seq.{take_at}
use borrow.Author.Tests.{lt-ltb, le-ltb}
use Rattle.bits.specs.Told.{Accepted, size, room}
use Rattle.bits.specs.Outcome.{outcome}
use Rattle.bits.proofs.OutcomeLaws.{Keeps, writing_keeps}
use Rattle.bits.specs.Crc.{crc, three_bytes}
use Rattle.bits.proofs.CrcLaws.{crc_below}
use Rattle.bits.specs.Onto.{onto, over}
use Rattle.frames.specs.Frame.{header, frame_of, frame_length, write_frame}
use Rattle.bits.proofs.OntoLaws.{over_zero, over_onto}

module _ (d out : List ℕ) where
  pub too_long : 1023 < length d → outcome size out ≡ write_frame d out
  unfolding write_frame
  too_long h = simp (lt-ltb _ _ h)

  module _ (h : length d ≤ 1023) where
    pub no_room : length out < length d + 6 → outcome (room (length d + 6)) out ≡ write_frame d out
    unfolding write_frame
    no_room l = simp (le-ltb _ _ h, lt-ltb _ _ l)

    pub is_framed : length d + 6 ≤ length out → outcome (Accepted (length d + 6)) (onto (frame_of d) out) ≡ write_frame d out
    unfolding write_frame
    is_framed l = simp (le-ltb _ _ h, le-ltb _ _ l)

  -- a refused framing writes nothing
  pub write_keeps : Keeps out (write_frame d out)
  unfolding write_frame
  write_keeps = writing_keeps out (frame_length d out) (λ n. onto (frame_of d) out)

-- a checksum has 24 bits
pub sum_below : (s : List ℕ) (r : ℕ) → r ≡ crc s → r < 2 ^ 24
sum_below s r e = rw e (crc_below s)

-- the header is the three bytes of one number
pub header_bytes : (n : ℕ) → n ≤ 1023 → three_bytes (0xD30000 + n) ≡ header n
header_bytes n h =
    let a : (0xD30000 + n) / 2 ^ 16 ≡ 0xD3 = omega arith in
    let b : (0xD30000 + n) / 2 ^ 8 % 2 ^ 8 ≡ n / 2 ^ 8 = omega arith in
    let e : (0xD30000 + n) % 2 ^ 8 ≡ n % 2 ^ 8 = omega arith in
    rw (a, b, e)

-- the output a after the header, b after the data, e after their sum
pub parts_framed : (d out a b e : List ℕ) (sum : ℕ) → length d ≤ 1023
    → a ≡ over 0 (three_bytes (0xD30000 + length d)) out → b ≡ over 3 d a → sum ≡ crc (take (length d + 3 - 0) b) → e ≡ over (length d + 3) (three_bytes sum) b
    → e ≡ onto (frame_of d) out
unfolding frame_of
parts_framed d out a b e sum h ea eb es ee =
    let n : suc (suc (suc (length d))) ≡ length d + 3 = omega arith in
    let m : suc (suc (suc (length d))) ≡ length d + 3 - 0 = omega arith in
    let front = header (length d) ++ d in
    let pa : a ≡ onto (header (length d)) out = ea ∙ over_zero (three_bytes (0xD30000 + length d)) out ∙ ap (λ (t : List ℕ). onto t out) (header_bytes (length d) h) in
    let pb : b ≡ onto front out = eb ∙ ap (over 3 d) pa ∙ over_onto (header (length d)) d out 3 refl in
    let ps : sum ≡ crc front = es ∙ ap (λ (t : List ℕ). crc (take (length d + 3 - 0) t)) pb ∙ ap crc (take_at front (drop (length front) out) (length d + 3 - 0) m) in
    ee ∙ ap₂ (λ (t : List ℕ) (r : ℕ). over (length d + 3) (three_bytes r) t) pb ps ∙ over_onto front (three_bytes (crc front)) out (length d + 3) n
