-- Framing and checking undo each other. Assumes nothing.
use mathlib.Core.Path.{◌≡◌, refl, sym, ap, ◌∙◌}
use mathlib.Core.List.{List, ◌++◌}
use Prim.Native.Nat.{ℕ, ◌+◌, ◌*◌, ◌%◌, ◌^◌, ◌≤◌}
use native.Mathlib.Nat.{add-zero, add_comm}
use native.Mathlib.Omega.{arith}
use lib.ListN.{length, get_or, take, drop, length-append, length-drop}
use lib.Seq.{take_at, drop_at, take-add, take-append-le, length-take-le}
use Rattle.bits.specs.Told.{Told, Accepted}
use Rattle.bits.specs.Outcome.{Outcome}
use Rattle.bits.specs.Field.{field}
use Rattle.bits.specs.Fields.{Bytes}
use Rattle.bits.specs.Crc.{crc, three_bytes, summed}
use Rattle.bits.proofs.FieldLaws.{field_split, byte_field}
use Rattle.bits.proofs.PartLaws.{field_drop}
use Rattle.bits.proofs.ThreeLaws.{three_field, three_back, back_three}
use Rattle.bits.proofs.CrcLaws.{crc_below}
use Rattle.frames.specs.Frame.{data_length, sent_sum, own_sum, Whole, whole_of, check, part_of, frame_part, data_part, header, frame_of, write_frame}
use Rattle.frames.proofs.FrameLaws.{length_low, length_small, Good, good_tells, good_passes}
use Rattle.frames.proofs.AppendLaws.{check_append}
use Rattle.frames.proofs.WriteLaws.{is_framed, header_bytes}

-- ---- a framed message passes the check

module _ (d : List ℕ) (h : length d ≤ 1023) where
  abbrev front : List ℕ
  front = header (length d) ++ d

  front_length : length front ≡ length d + 3
  front_length = omega arith

  framed_front : frame_of d ≡ front ++ three_bytes (crc front)
  unfolding frame_of
  framed_front = refl

  -- a frame is six bytes longer than its data
  pub framed_size : length (frame_of d) ≡ length d + 6
  framed_size = ap length framed_front ∙ length-append front (three_bytes (crc front)) ∙ ap (λ (n : ℕ). n + 3) front_length ∙ omega arith

  -- it says so
  pub framed_length : data_length (frame_of d) ≡ length d
  unfolding frame_of
  framed_length = sym (length_low (frame_of d)) ∙ ap (λ (n : ℕ). n % 2 ^ 10) (three_field (frame_of d) 0) ∙ omega arith

  framed_own : own_sum (frame_of d) ≡ crc front
  framed_own =
      ap (λ (n : ℕ). crc (take (n + 3) (frame_of d))) framed_length
      ∙ ap (λ (s : List ℕ). crc (take (length d + 3) s)) framed_front
      ∙ ap crc (take_at front (three_bytes (crc front)) (length d + 3) front_length)

  framed_sent : sent_sum (frame_of d) ≡ crc front
  framed_sent =
      ap (λ (n : ℕ). field (frame_of d) ((n + 3) * 8) 24) framed_length
      ∙ ap (λ (n : ℕ). field (frame_of d) n 24) (sym (add-zero ((length d + 3) * 8)))
      ∙ sym (field_drop (length d + 3) (frame_of d) 0 24)
      ∙ ap (λ (s : List ℕ). field s 0 24) (ap (drop (length d + 3)) framed_front ∙ drop_at front (three_bytes (crc front)) (length d + 3) front_length)
      ∙ three_back (crc front) (crc_below front)

  framed_start : get_or (frame_of d) 0 0 ≡ 0xD3
  unfolding frame_of
  framed_start = refl

  -- the check is good, also with any bytes behind
  pub framed_passes : (t : List ℕ) → check (frame_of d ++ t) ≡ Accepted (whole_of (frame_of d))
  framed_passes t =
      check_append (frame_of d) t (whole_of (frame_of d))
      (good_passes (frame_of d) (whole_of (frame_of d))
      record {
        whole = refl;
        start = framed_start;
        fits = rw (framed_length, framed_size) (omega arith);
        sums = framed_own ∙ sym framed_sent;
      })

  -- and hands out the frame and the data
  pub framed_frame : (t : List ℕ) → (frame_part (frame_of d ++ t)).bytes ≡ frame_of d
  framed_frame t =
      let s = frame_of d ++ t in
      ap (λ (r : Told Whole). (part_of 0 (λ w. w.length) r s).bytes) (framed_passes t)
      ∙ take_at (frame_of d) t (data_length (frame_of d) + 6) (framed_size ∙ ap (λ (n : ℕ). n + 6) (sym framed_length))

  pub framed_data : (t : List ℕ) → (data_part (frame_of d ++ t)).bytes ≡ d
  unfolding frame_of
  framed_data t =
      let s = frame_of d ++ t in
      ap (λ (r : Told Whole). (part_of 3 (λ w. w.carried) r s).bytes) (framed_passes t)
      ∙ ap (λ (n : ℕ). take n (d ++ three_bytes (crc front) ++ t)) framed_length
      ∙ take-append-le (length d) (d ++ three_bytes (crc front)) t (rw (length-append d (three_bytes (crc front))) (omega arith))
      ∙ take_at d (three_bytes (crc front)) (length d) refl

  -- so does what framing leaves in an output with room
  pub written_passes : (out : List ℕ) → length d + 6 ≤ length out → check (write_frame d out).areas ≡ Accepted (whole_of (frame_of d))
  written_passes out l = ap (λ (r : Outcome ℕ (List ℕ)). check r.areas) (sym (is_framed d out h l)) ∙ framed_passes (drop (length (frame_of d)) out)

-- ---- framing what a good frame carries gives the frame back, where its reserved bits are 0

module _ (s : List ℕ) (w : Whole) (b : Bytes s) (q : check s ≡ Accepted w) (zero_bits : field s 8 6 ≡ 0) where
  tells : Good s w
  tells = good_tells s w q

  first_three : take 3 s ≡ header (data_length s)
  first_three =
      let g = tells in
      let v : field s 0 24 ≡ 0xD30000 + data_length s = omega (arith, field_split s 0 14 10, field_split s 0 8 6, byte_field s 0 0 refl) in
      back_three s 0 b (omega arith) ∙ ap three_bytes v ∙ header_bytes (data_length s) (length_small s)

  first_part : take (data_length s + 3) s ≡ header (data_length s) ++ take (data_length s) (drop 3 s)
  first_part =
      ap (λ (n : ℕ). take n s) (add_comm (data_length s) 3)
      ∙ take-add 3 (data_length s) s
      ∙ ap (λ (l : List ℕ). l ++ take (data_length s) (drop 3 s)) first_three

  last_three : take 3 (drop (data_length s + 3) s) ≡ three_bytes (crc (take (data_length s + 3) s))
  last_three = let g = tells in back_three s (data_length s + 3) b (omega arith) ∙ ap three_bytes (sym g.sums)

  pub frame_back : frame_of (data_part s).bytes ≡ (frame_part s).bytes
  unfolding frame_of
  frame_back =
      let g = tells in
      let carried = take (data_length s) (drop 3 s) in
      let n : length carried ≡ data_length s = length-take-le (data_length s) (drop 3 s) (rw (length-drop 3 s) (omega arith)) in
      let m : data_length s + 3 + 3 ≡ data_length s + 6 = omega arith in
      ap frame_of (ap (λ (r : Told Whole). (part_of 3 (λ v. v.carried) r s).bytes) q ∙ ap (λ (v : Whole). take v.carried (drop 3 s)) g.whole)
      ∙ ap (λ (k : ℕ). summed (header k ++ carried)) n
      ∙ ap summed (sym first_part)
      ∙ ap (λ (l : List ℕ). take (data_length s + 3) s ++ l) (sym last_three)
      ∙ sym (take-add (data_length s + 3) 3 s)
      ∙ ap (λ (k : ℕ). take k s) m
      ∙ sym (ap (λ (r : Told Whole). (part_of 0 (λ v. v.length) r s).bytes) q ∙ ap (λ (v : Whole). take v.length s) g.whole)
