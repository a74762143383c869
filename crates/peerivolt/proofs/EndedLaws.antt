-- WHAT `pv_close` PROMISES A C PROGRAM: closing until Done, that it comes to Done, and the recording with its sum, by its number, its eight numbers and its two areas, in every mode. Assumes nothing.
use mathlib.Core.Path.{◌≡◌, refl, sym, ap, subst, ◌∙◌}
use mathlib.Core.List.{List, [], ◌++◌}
use Prim.Native.Nat.{ℕ, ◌+◌, ◌-◌}
use native.Mathlib.Omega.{arith}
use lib.ListN.{length, take, get_or}
use lib.Dec.{eqb}
use Rattle.bits.specs.Told.{Told, Accepted, Refused}
use Rattle.bits.specs.Outcome.{Outcome, outcome}
use Rattle.frames.specs.Rtcm.{Why, Kind}
use Rattle.frames.specs.Modes.{framing_of}
use Rattle.frames.specs.Framing.{Framing, decide}
use Rattle.frames.specs.Scan.{Handed, framed, handed, skipped_of, bytes_of}
use Rattle.frames.specs.Feed.{Next, Held, Found, next, only}
use Rattle.frames.specs.Call as call
use Rattle.frames.specs.Call.{Scanner, FedAnswer, onwards, held_from, called, feed_of}
use Rattle.frames.specs.Close.{Gave, closed, ending, ClosedAnswer, Done, Frame, closed_by, close_of}
use Rattle.frames.proofs.CallLaws.{Fits, accepts}
use Rattle.frames.proofs.CloseLaws.{close_is}
use Rattle.frames.proofs.ModeLaws.{lawful}
use Rattle.closing.specs.Closing as own
use Rattle.closing.specs.Closing.{Closes}
use Rattle.closing.proofs.ClosesLaws as closing
use Rattle.closing.proofs.RecordingLaws.{recording}
use Rattle.peerivolt.specs.Extra.{numbers, in_numbers, returned, answered}
use Rattle.peerivolt.specs.Scanner.{scanner_of}
use Rattle.peerivolt.specs.Closing.{closed_values, closes}
use Rattle.peerivolt.specs.Feeding.{frame_numbers, PvCalls}
use Rattle.peerivolt.specs.Ended.{done_numbers, pv_close, PvCloses, done, then}
use Rattle.peerivolt.proofs.FeedLaws.{Nonzero, nonzero, same_kind, sized_zero, calls}
use Rattle.peerivolt.proofs.ClosingLaws as told

-- ---- no refusal has the number 0

abbrev NonzeroClosed : Told (ClosedAnswer Kind) → Type 0
NonzeroClosed (Accepted r) = Unit {0}
NonzeroClosed (Refused n carried) = n ≡ 0 → ⊥

by_closed : (r : Told (FedAnswer Kind)) → Nonzero r → NonzeroClosed (closed_by r)
by_closed (Accepted (call.More t s x)) z = tt
by_closed (Accepted (call.Frame l t s i k x)) z = tt
by_closed (Refused n carried) z = z

module _ (mode : ℕ) (a : List ℕ) (x : Scanner) (o : List ℕ) where
  abbrev F : Framing Why Kind
  F = framing_of mode

  nonzero_closed : NonzeroClosed (close_of F a x o).answer
  nonzero_closed =
      subst (λ (w : Outcome (ClosedAnswer Kind) (List ℕ × List ℕ)). NonzeroClosed w.answer) (sym (close_is F a x o))
      (by_closed (feed_of (ending F) a x [] o).answer (nonzero (ending F) a x [] o))

  -- ---- what an accepted call came from

  same_mode : (r : Next (Gave Why) Kind) (l t s i : ℕ) (k : Kind) (y : Scanner) (b q : List ℕ) → called (only r) x a o ≡ outcome (Accepted (call.Frame l t s i k y)) (b, q) → y.mode ≡ x.mode
  same_mode (Held is g) l t s i k y b q v =
      let e : ◌≡◌ {A = Told (FedAnswer Kind)} (Accepted (call.More 0 (length is) (onwards x 0 (length g)))) (Accepted (call.Frame l t s i k y)) = ap (λ z. z.answer) v in
      let z : ◌≡◌ {A = ℕ} 0 1 = cc in absurd (omega arith)
  same_mode (Found is j f g) l t s i k y b q v =
      let e : ◌≡◌ {A = Told (FedAnswer Kind)} (Accepted (call.Frame (length f) 0 (length is) (held_from x + length is) j (onwards x 0 (length g)))) (Accepted (call.Frame l t s i k y)) = ap (λ z. z.answer) v in
      let yn : onwards x 0 (length g) ≡ y = cc in
      sym (ap (λ z. z.mode) yn)

  found_fits : (l s i : ℕ) (k : Kind) (y : Scanner) (b q : List ℕ) → close_of F a x o ≡ outcome (Accepted (Frame l s i k y)) (b, q) → Fits a x [] o × (y.mode ≡ x.mode)
  found_fits l s i k y b q e =
      let r = closing.is_found (feed_of (ending F) a x [] o).answer l s i k y (ap (λ z. z.answer) (sym (close_is F a x o) ∙ e)) in
      let f : feed_of (ending F) a x [] o ≡ outcome (Accepted (call.Frame l r.0 s i k y)) (b, q) = λ j. outcome (r.1 j) ((sym (close_is F a x o) ∙ e) j).areas in
      let v = accepts (ending F) a x [] o (call.Frame l r.0 s i k y) b q f in
      (v.0, same_mode (next (decide (ending F)) (take x.count a)) l r.0 s i k y b q v.1)

  done_fits : (s : ℕ) (y : Scanner) (b q : List ℕ) → close_of F a x o ≡ outcome (Accepted (Done s y)) (b, q) → Fits a x [] o
  done_fits s y b q e =
      let r = closing.is_done (feed_of (ending F) a x [] o).answer s y (ap (λ z. z.answer) (sym (close_is F a x o) ∙ e)) in
      let f : feed_of (ending F) a x [] o ≡ outcome (Accepted (call.More r.0 s r.1)) (b, q) = λ j. outcome (r.2 j) ((sym (close_is F a x o) ∙ e) j).areas in
      (accepts (ending F) a x [] o (call.More r.0 s r.1) b q f).0

-- ---- from the eight numbers back to the answer

is_done : (r : Told (ClosedAnswer Kind)) → NonzeroClosed r → (s m n : ℕ) → in_numbers closed_values r ≡ numbers 0 (done_numbers s m n)
    → (y : Scanner) × (r ≡ Accepted (Done s y)) × (y.count ≡ m) × (y.taken ≡ n)
is_done (Accepted (Done s' y)) z s m n e =
    let b : s' ≡ s = ap (λ n. get_or n.extra 2 0) e in
    (y, (λ j. Accepted (Done (b j) y)), ap (λ n. get_or n.extra 3 0) e, ap (λ n. get_or n.extra 6 0) e)
is_done (Accepted (Frame l' s' i' k' y)) z s m n e = let a : ◌≡◌ {A = ℕ} 1 0 = ap (λ n. get_or n.extra 0 0) e in absurd (omega arith)
is_done (Refused c carried) z s m n e = absurd (z (ap (λ n. n.number) e))

is_found : (r : Told (ClosedAnswer Kind)) → NonzeroClosed r → (l s i : ℕ) (k : Kind) (m n : ℕ) → in_numbers closed_values r ≡ numbers 0 (frame_numbers l 0 s i k m n)
    → (y : Scanner) × (r ≡ Accepted (Frame l s i k y)) × (y.count ≡ m) × (y.taken ≡ n)
is_found (Accepted (Frame l' s' i' k' y)) z l s i k m n e =
    let b : s' ≡ s = ap (λ n. get_or n.extra 2 0) e in
    let c : l' ≡ l = ap (λ n. get_or n.extra 4 0) e in
    let d : i' ≡ i = ap (λ n. get_or n.extra 5 0) e in
    let f : k' ≡ k = same_kind k' k (ap (λ n. get_or n.extra 7 0) e) in
    (y, (λ j. Accepted (Frame (c j) (b j) (d j) (f j) y)), ap (λ n. get_or n.extra 3 0) e, ap (λ n. get_or n.extra 6 0) e)
is_found (Accepted (Done s' y)) z l s i k m n e = let a : ◌≡◌ {A = ℕ} 0 1 = ap (λ n. get_or n.extra 0 0) e in absurd (omega arith)
is_found (Refused c carried) z l s i k m n e = absurd (z (ap (λ n. n.number) e))

-- ---- one call that returns 0

tells : (a o : List ℕ) (w : Outcome (ClosedAnswer Kind) (List ℕ × List ℕ)) (e : List ℕ) {e' b q : List ℕ} → closes a o w e ≡ returned 0 e' (b, q)
    → (in_numbers closed_values w.answer ≡ numbers 0 e') × (w.areas ≡ (b, q))
unfolding closes answered
tells a o w e h =
    let x = sized_zero (eqb (length e) 8) e (a, o) _ (sized_zero (eqb (length a) 1029) e (a, o) _ h) in
    (ap (λ n. n.answer) x, ap (λ n. n.areas) x)

module _ (mode : ℕ) (a : List ℕ) (m n : ℕ) (o e : List ℕ) {b q : List ℕ} {s m' n' : ℕ} where
  -- Done tells a scanner of which the numbers are known
  done_call : pv_close mode a m n o e ≡ returned 0 (done_numbers s m' n') (b, q)
      → (y : Scanner) × (close_of (framing_of mode) a (scanner_of m n mode) o ≡ outcome (Accepted (Done s y)) (b, q)) × (y.count ≡ m') × (y.taken ≡ n')
  done_call h =
      let x = scanner_of m n mode in
      let g = tells a o (close_of (framing_of mode) a x o) e h in
      let r = is_done (close_of (framing_of mode) a x o).answer (nonzero_closed mode a x o) s m' n' g.0 in
      (r.0, (λ j. outcome (r.1 j) (g.1 j)), r.2, r.3)

  found_call : {l i : ℕ} {k : Kind} → pv_close mode a m n o e ≡ returned 0 (frame_numbers l 0 s i k m' n') (b, q)
      → close_of (framing_of mode) a (scanner_of m n mode) o ≡ outcome (Accepted (Frame l s i k (scanner_of m' n' mode))) (b, q)
  found_call {l} {i} {k} h =
      let x = scanner_of m n mode in
      let g = tells a o (close_of (framing_of mode) a x o) e h in
      let r = is_found (close_of (framing_of mode) a x o).answer (nonzero_closed mode a x o) l s i k m' n' g.0 in
      let f : close_of (framing_of mode) a x o ≡ outcome (Accepted (Frame l s i k r.0)) (b, q) = λ j. outcome (r.1 j) (g.1 j) in
      let c = (found_fits mode a x o l s i k r.0 b q f).1 in
      f ∙ (λ j. outcome (Accepted (Frame l s i k (record { count = r.2 j; taken = r.3 j; mode = c j }))) (b, q))

-- ---- the calls as the library makes them

module _ (mode : ℕ) where
  -- calls until Done, and what is known of the scanner then
  abbrev Closed : List ℕ → ℕ → ℕ → List (Handed Kind) → ℕ → ℕ → ℕ → Type 0
  Closed a m n fs s v w = (y : Scanner) × Closes (framing_of mode) a (scanner_of m n mode) fs s y × (y.count ≡ v) × (y.taken ≡ w)

  ended : {a : List ℕ} {m n s v w : ℕ} {fs : List (Handed Kind)} → PvCloses mode a m n fs s v w → Closed a m n fs s v w
  ended (done {a} {b} {q} {m} {n} {s} o e h) = let r = done_call mode a m n o e h in (r.0, own.done {b = b} {q = q} o r.1, r.2, r.3)
  ended (then {a} {b} {q} {m} {n} {s} {l} {i} o e h rest) =
      let r = ended rest in
      (r.0, own.then {b = b} {q = q} o (found_call mode a m n o e h) r.1, r.2, r.3)

  -- ---- the promises

  -- CLOSING. Calls of `pv_close` until Done hand out the frames of the scan of the bytes held in which nothing waits, each with its kind and its place, and skip the rest; the held count and the bytes taken are 0 then.
  pub pv_closes : {a : List ℕ} {m n s v w : ℕ} {fs : List (Handed Kind)} → PvCloses mode a m n fs s v w
      → (handed (n - m) (closed (framing_of mode) (take m a)) ≡ fs) × (skipped_of (closed (framing_of mode) (take m a)) ≡ s) × (v ≡ 0) × (w ≡ 0)
  pv_closes c =
      let r = ended c in
      let g = closing.closes (framing_of mode) (lawful mode) r.1 in
      (g.0, g.1, sym r.2 ∙ ap (λ z. z.count) g.2, sym r.3 ∙ ap (λ z. z.taken) g.2)

  -- THE RECORDING. Fed by `pv_feed` on whatever pieces and closed by `pv_close` until Done, it gives one scan of all its bytes in which nothing waits: its frames at their places, fed and then salvaged, and every other byte skipped; and the bytes taken are those in frames and those skipped.
  pub pv_recording : {s a : List ℕ} {fs gs : List (Handed Kind)} {z u m n v w : ℕ} → PvCalls mode s fs z a m n → PvCloses mode a m n gs u v w
      → (handed 0 (closed (framing_of mode) s) ≡ fs ++ gs) × (skipped_of (closed (framing_of mode) s) ≡ z + u) × (bytes_of (closed (framing_of mode) s) ≡ s)
      × (length s ≡ (framed fs + framed gs) + (z + u))
  pv_recording c d =
      let r = ended d in
      let g = recording (framing_of mode) (lawful mode) (calls mode c) r.1 in
      (g.0, g.1, g.2, closing.sum_of_recording (framing_of mode) (lawful mode) (calls mode c) r.1)

  -- ---- and they come to Done

  module _ (e : List ℕ) (eight : length e ≡ 8) where
    comes : {a : List ℕ} {x z : Scanner} {fs : List (Handed Kind)} {u : ℕ} → Closes (framing_of mode) a x fs u z → x.mode ≡ mode
        → (v : ℕ) × (w : ℕ) × PvCloses mode a x.count x.taken fs u v w
    comes (own.done {a} {b} {q} {x} {y} {s} o h) k =
        let f = done_fits mode a x o s y b q h in
        let g : pv_close mode a x.count x.taken o e ≡ returned 0 (done_numbers s y.count y.taken) (b, q) =
        sym (told.closed a o e f.area eight refl (sym (ap (λ c. close_of (framing_of mode) a (record { count = x.count; taken = x.taken; mode = c }) o) (sym k) ∙ h))) in
        (y.count, y.taken, done o e g)
    comes (own.then {a} {b} {q} {x} {y} {z} {s} {l} {i} {u} {k} {fs} o h rest) c =
        let f = found_fits mode a x o l s i k y b q h in
        let g : pv_close mode a x.count x.taken o e ≡ returned 0 (frame_numbers l 0 s i k y.count y.taken) (b, q) =
        sym (told.closed a o e f.0.area eight refl (sym (ap (λ d. close_of (framing_of mode) a (record { count = x.count; taken = x.taken; mode = d }) o) (sym c) ∙ h))) in
        let r = comes rest (f.1 ∙ c) in
        (r.0, r.1, then o e g r.2)

    -- CLOSING COMES TO DONE after finitely many calls, with the same output and extra area lent again.
    pub pv_comes : (a : List ℕ) (m n : ℕ) (o : List ℕ) → Fits a (scanner_of m n mode) [] o
        → (fs : List (Handed Kind)) × (s : ℕ) × (v : ℕ) × (w : ℕ) × PvCloses mode a m n fs s v w
    pv_comes a m n o f =
        let r = closing.comes (framing_of mode) (lawful mode) a (scanner_of m n mode) o f in
        let g = comes r.3 refl in
        (r.0, r.1, g.0, g.1, g.2)
