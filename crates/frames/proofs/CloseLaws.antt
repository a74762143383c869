-- Closing holds nothing, and every byte of a stream that is fed and then closed is in exactly one item. Assumes nothing.
use mathlib.Core.Path.{◌≡◌, refl, ap, ◌∙◌}
use mathlib.Core.List.{List, [], ◌∷◌, ◌++◌, append-nil}
use Prim.Native.Nat.{ℕ, zero, suc, ◌+◌, pred}
use native.Mathlib.Omega.{arith}
use lib.ListN.{length, take}
use borrow.Author.Tests.{le-leb}
use Rattle.bits.specs.Outcome.{outcome}
use Rattle.frames.specs.Scan.{Decision, Skip, Take, Wait, Item, step, scan_past, Handed, scan, bytes_of, handed, skipped_of, framed}
use Rattle.frames.specs.Framing.{Framing, Lawful, decide}
use Rattle.frames.specs.Call.{Scanner, held_from, FedOutcome, feed_of}
use Rattle.frames.specs.Offered.{Calls}
use Rattle.frames.proofs.FramingLaws.{Whole, decides}
use Rattle.frames.proofs.ItemLaws.{length_items}
use Rattle.frames.proofs.JoinLaws.{every_byte}
use Rattle.frames.proofs.TakenLaws as takens
use Rattle.frames.specs.Close.{final, closing, closed, ending, closed_by, close_of}

-- ---- a decider that never waits

module _ {W K : Type 0} (d : List ℕ → Decision W K) where
  pub final_takes : (q : Decision W K) (k : K) (n : ℕ) → final q ≡ Take k n → q ≡ Take k n
  final_takes (Skip w) k n e = let z : ◌≡◌ {A = ℕ} 0 1 = cc in absurd (omega arith)
  final_takes (Take j m) k n e = cc
  final_takes Wait k n e = let z : ◌≡◌ {A = ℕ} 0 1 = cc in absurd (omega arith)

  pub closing_whole : Whole d → Whole (closing d)
  closing_whole w s k n e = w s k n (final_takes (d s) k n e)

  none_step : (x : ℕ) (xs : List ℕ) → ((m : ℕ) → (scan_past (closing d) m xs).held ≡ [])
      → (q : Decision W K) → (step (final q) x xs (λ n. scan_past (closing d) n xs)).held ≡ []
  none_step x xs ih (Skip w) = ih 0
  none_step x xs ih (Take k n) = ih (pred n)
  none_step x xs ih Wait = ih 0

  none_past : (m : ℕ) (s : List ℕ) → (scan_past (closing d) m s).held ≡ []
  none_past zero [] = refl
  none_past (suc m) [] = refl
  none_past (suc m) (x ∷ xs) = none_past m xs
  none_past zero (x ∷ xs) = none_step x xs (λ m. none_past m xs) (d (x ∷ xs))

  -- CLOSING HOLDS NOTHING.
  pub holds_nothing : (s : List ℕ) → (scan (closing d) s).held ≡ []
  holds_nothing s = none_past 0 s

-- ---- a closing call

module _ {W K : Type 0} (F : Framing W K) where
  -- the framing of the end decides as `closing` does
  pub ending_decides : (x : ℕ) (xs : List ℕ) → decide (ending F) (x ∷ xs) ≡ closing (decide F) (x ∷ xs)
  ending_decides x xs = rw (le-leb 1 (suc (length xs)) (omega arith))

  module _ (a : List ℕ) (x : Scanner) (o : List ℕ) where
    -- it is the call that is fed nothing and waits for nothing
    pub close_is : close_of F a x o ≡ outcome (closed_by (feed_of (ending F) a x [] o).answer) (feed_of (ending F) a x [] o).areas
    unfolding close_of
    close_is = refl

    pub close_by : (w : FedOutcome K) → feed_of (ending F) a x [] o ≡ w → close_of F a x o ≡ outcome (closed_by w.answer) w.areas
    close_by w e = close_is ∙ ap (λ (z : FedOutcome K). outcome (closed_by z.answer) z.areas) e

-- ---- a stream that is fed and then closed

module _ {W K : Type 0} (F : Framing W K) (L : Lawful F) where
  -- what is closed is all given away
  pub all_given : (h : List ℕ) → bytes_of (closed F h) ≡ h
  all_given h =
      let e = every_byte (closing (decide F)) (closing_whole (decide F) (decides F L).whole) h in
      rw (holds_nothing (decide F) h, append-nil (bytes_of (closed F h))) at e

  -- EVERY BYTE that was taken is in exactly one item, of the calls as they were made or of the closing: the frames handed out and the bytes skipped are those of items that, with those of the closing, are what was taken
  pub every_byte_once : {s a : List ℕ} {fs : List (Handed K)} {n : ℕ} {x : Scanner} → Calls F s fs n a x
      → (is : List (Item W K)) × (handed 0 is ≡ fs) × (skipped_of is ≡ n) × (bytes_of is ++ bytes_of (closed F (take x.count a)) ≡ s)
  every_byte_once {s} {a} {fs} {n} {x} c =
      let r = takens.taken F L c in
      (r.items, r.frames, r.skipped, rw (all_given (take x.count a)) r.bytes)

  -- THE SUM of a recording: bytes taken are the bytes in frames, fed or salvaged, plus skipped, in feeding or in closing.
  pub sum_closed : {s a : List ℕ} {fs : List (Handed K)} {n : ℕ} {x : Scanner} → Calls F s fs n a x
      → length s ≡ (framed fs + framed (handed (held_from x) (closed F (take x.count a)))) + (n + skipped_of (closed F (take x.count a)))
  sum_closed {s} {a} {fs} {n} {x} c =
      omega (arith, takens.sum F L c, (takens.taken F L c).count, length_items (held_from x) (closed F (take x.count a)), ap length (all_given (take x.count a)))
