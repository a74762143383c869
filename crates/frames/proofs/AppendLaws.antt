-- What is read of a frame stays whatever bytes follow it. Assumes nothing.
use mathlib.Core.Path.{◌≡◌, sym, ap, ◌∙◌}
use mathlib.Core.List.{List, ◌++◌}
use Prim.Native.Nat.{ℕ, ◌+◌, ◌*◌, ◌≤◌}
use native.Mathlib.Omega.{arith}
use lib.ListN.{length, drop, length-append, length-drop, get_or-append}
use lib.Seq.{take-append-le, drop-append-le}
use Rattle.bits.specs.Told.{Accepted}
use Rattle.bits.proofs.PartLaws.{field_append}
use Rattle.frames.specs.Frame.{data_length, sent_sum, own_sum, data_of, number_of, Whole, check}
use Rattle.frames.proofs.FrameLaws.{same_frame, good_tells, good_passes}

module _ (s t : List ℕ) where
  pub length_stays : 3 ≤ length s → data_length (s ++ t) ≡ data_length s
  length_stays h = field_append s t 14 10 (omega arith)

  module _ (h : data_length s + 6 ≤ length s) where
    pub own_stays : own_sum (s ++ t) ≡ own_sum s
    own_stays = rw (length_stays (omega arith), take-append-le (data_length s + 3) s t (omega arith))

    pub sent_stays : sent_sum (s ++ t) ≡ sent_sum s
    sent_stays = rw (length_stays (omega arith)) (field_append s t ((data_length s + 3) * 8) 24 (omega arith))

    pub data_stays : data_of (s ++ t) ≡ data_of s
    data_stays =
        rw (length_stays (omega arith), drop-append-le 3 s t (omega arith))
        (take-append-le (data_length s) (drop 3 s) t (rw length-drop (omega arith)))

  -- bytes after the frame are ignored
  pub check_append : (w : Whole) → check s ≡ Accepted w → check (s ++ t) ≡ Accepted w
  check_append w q =
      let g = good_tells s w q in
      let e = length_stays (omega arith) in
      good_passes (s ++ t) w
      record {
        whole = g.whole ∙ same_frame (sym e) (ap number_of (sym (data_stays g.fits))) (sym (sent_stays g.fits));
        start = get_or-append s t 0 0 (omega arith) ∙ g.start;
        fits = rw (e, length-append s t) (omega arith);
        sums = own_stays g.fits ∙ g.sums ∙ sym (sent_stays g.fits);
      }
