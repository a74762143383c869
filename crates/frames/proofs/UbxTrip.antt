-- The frame of a payload of up to 1,021 bytes is taken whole, whatever follows it. Assumes nothing.
use mathlib.Core.Path.{◌≡◌, refl, ap, ◌∙◌}
use mathlib.Core.List.{List, [], ◌∷◌, ◌++◌}
use Prim.Native.Nat.{ℕ, ◌+◌, ◌≤◌}
use native.Mathlib.Omega.{arith}
use lib.ListN.{length, get_or, take, length-append}
use lib.Seq.{take_at, get_or-append-add}
use borrow.Author.Tests.{le-ltb, eq-eqb}
use Rattle.frames.specs.Scan.{Take}
use Rattle.frames.specs.Framing.{decide}
use Rattle.frames.specs.Rtcm.{Ubx}
use Rattle.frames.proofs.FramingLaws.{enough, decides}
use Rattle.frames.specs.Ubx.{ubx, payload, sums, sent_sums, own_sums, by_sums, body_of, ubx_of}
use Rattle.frames.proofs.UbxLaws.{ubx_lawful}

-- sums that are the same hand out a frame
same_sums_lem : (n : ℕ) (c : ℕ × ℕ) → by_sums n c c ≡ Take Ubx (n + 8)
same_sums_lem n c = rw (eq-eqb c.0 c.0 refl, eq-eqb c.1 c.1 refl)

module _ (class id : ℕ) (p : List ℕ) where
  abbrev frame : List ℕ
  frame = ubx_of class id p

  abbrev tail : List ℕ
  tail = (sums (body_of class id p)).0 ∷ (sums (body_of class id p)).1 ∷ []

  payload_is : payload frame ≡ length p
  payload_is = omega arith

  length_is : length frame ≡ length p + 8
  length_is = omega (arith, length-append p tail)

  own_is : own_sums frame ≡ sums (body_of class id p)
  own_is = ap sums (ap (λ n. take (n + 4) (body_of class id p ++ tail)) payload_is ∙ take_at (body_of class id p) tail (length p + 4) (omega arith))

  sent_at : (i : ℕ) → get_or frame (length p + 6 + i) 0 ≡ get_or tail i 0
  sent_at i =
      let e : length p + 6 + i ≡ length (0xB5 ∷ 0x62 ∷ body_of class id p) + i = omega arith in
      ap (λ n. get_or frame n 0) e ∙ get_or-append-add (0xB5 ∷ 0x62 ∷ body_of class id p) tail i 0

  sent_is : sent_sums frame ≡ sums (body_of class id p)
  sent_is =
      let first : payload frame + 6 ≡ length p + 6 + 0 = omega (arith, payload_is) in
      let second : payload frame + 7 ≡ length p + 6 + 1 = omega (arith, payload_is) in
      λ j. ((ap (λ n. get_or frame n 0) first ∙ sent_at 0) j, (ap (λ n. get_or frame n 0) second ∙ sent_at 1) j)

  module _ (l : length p ≤ 1021) where
    need_is : ubx.need frame ≡ length p + 8
    unfolding ubx
    need_is = rw (payload_is, le-ltb 1021 (length p) l)

    verdict_is : ubx.verdict frame ≡ Take Ubx (length p + 8)
    unfolding ubx
    verdict_is =
        let e : by_sums (payload frame) (sent_sums frame) (own_sums frame) ≡ Take Ubx (length p + 8) = (λ j. by_sums (payload_is j) (sent_is j) (own_is j)) ∙ same_sums_lem (length p) (sums (body_of class id p)) in
        let f : payload frame ≤ 1021 = omega (arith, payload_is) in
        rw (le-ltb 1021 (payload frame) f) e

    -- A UBX FRAME is taken whole.
    pub takes_frame : (t : List ℕ) → decide ubx (frame ++ t) ≡ Take Ubx (length p + 8)
    takes_frame t =
        let fits : ubx.need frame ≤ length frame = omega (arith, need_is, length_is) in
        (decides ubx ubx_lawful).takes frame t Ubx (length p + 8) (enough ubx frame fits ∙ verdict_is)
