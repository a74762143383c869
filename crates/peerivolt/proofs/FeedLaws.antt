-- WHAT `pv_feed` PROMISES A C PROGRAM: demand 3 and the sum, by its number, its eight numbers and its two areas, in every mode. Assumes nothing.
use mathlib.Core.Path.{◌≡◌, refl, sym, ap, subst, ◌∙◌}
use mathlib.Core.Bool.{Bool, true, false}
use mathlib.Core.List.{List, flatten}
use Prim.Native.Nat.{ℕ, ◌+◌, ◌-◌, ◌^◌, ◌≤◌}
use native.Mathlib.Omega.{arith}
use lib.ListN.{length, take, get_or}
use lib.Dec.{eqb, ltb}
use borrow.Author.Tests.{eqb-true, eqb-false, ltb-true, ltb-false}
use Rattle.bits.specs.Told.{Told, Accepted, Refused}
use Rattle.bits.specs.Outcome.{outcome}
use Rattle.frames.specs.Rtcm.{Kind, Rtcm, Ubx}
use Rattle.frames.specs.Modes.{framing_of}
use Rattle.frames.specs.Framing.{Framing, decide}
use Rattle.frames.specs.Scan.{Handed, scan, framed, placed, skips_before}
use Rattle.frames.specs.Feed as fed
use Rattle.frames.specs.Feed.{Fed, feed}
use Rattle.frames.specs.Call.{Scanner, FedAnswer, More, Frame, FedOutcome, called, feed_of}
use Rattle.frames.specs.Offered as frames
use Rattle.frames.specs.Offered.{Scans}
use Rattle.frames.proofs.CallLaws.{wrong_area, wrong_count, over_taken, over_limit, wrong_mode, long_piece, past_limit, small_output, accepted}
use Rattle.frames.proofs.AnswerLaws.{more_keeps, frame_keeps}
use Rattle.frames.proofs.PlaceLaws.{skipped_places}
use Rattle.frames.proofs.ModeLaws.{lawful, demand, sum}
use Rattle.peerivolt.specs.Extra.{numbers, in_numbers, Returned, returned, if_sized, answered}
use Rattle.peerivolt.specs.Scanner.{scanner_of, kind_number, fed_values, feeds}
use Rattle.peerivolt.specs.Feeding.{more_numbers, frame_numbers, pv_feed, PvOffered, PvOffers, PvCalls, last, then, end, piece, fresh, more, frame}

-- ---- no refusal has the number 0

abbrev pub Nonzero : Told (FedAnswer Kind) → Type 0
Nonzero (Accepted r) = Unit {0}
Nonzero (Refused n carried) = n ≡ 0 → ⊥

called_nonzero : {W : Type 0} (G : Fed W Kind) (x : Scanner) (a o : List ℕ) → Nonzero (called G x a o).answer
called_nonzero (fed.More t is g) x a o = tt
called_nonzero (fed.Frame t is k f g) x a o = tt

module _ {W : Type 0} (F : Framing W Kind) (a : List ℕ) (x : Scanner) (p o : List ℕ) where
  by : (w : FedOutcome Kind) → feed_of F a x p o ≡ w → Nonzero w.answer → Nonzero (feed_of F a x p o).answer
  by w e h = subst (λ (x : FedOutcome Kind). Nonzero x.answer) (sym e) h

  -- one refusal after the other: each has its number, and past them the call is accepted
  module _ (area : length a ≡ 1029) where
    module _ (count : x.count ≤ 1029) (held : x.count ≤ x.taken) (taken : x.taken ≤ 2 ^ 48) (known : x.mode ≤ 1) where
      past_piece : length p ≤ 65536 → x.taken + length p ≤ 2 ^ 48 → (b : Bool) → ltb (length o) 1029 ≡ b → Nonzero (feed_of F a x p o).answer
      past_piece l m true e = by _ (small_output F a x p o area count held taken known l m (ltb-true (length o) 1029 e)) (λ k. omega arith)
      past_piece l m false e =
          by _ (accepted F a x p o (record { area = area; count = count; held = held; taken = taken; mode = known; piece = l; limit = m; output = ltb-false (length o) 1029 e }))
          (called_nonzero (feed (decide F) (take x.count a) p) x a o)

      past_length : length p ≤ 65536 → (b : Bool) → ltb (2 ^ 48) (x.taken + length p) ≡ b → Nonzero (feed_of F a x p o).answer
      past_length l true e = by _ (past_limit F a x p o area count held taken known l (ltb-true (2 ^ 48) (x.taken + length p) e)) (λ k. omega arith)
      past_length l false e = past_piece l (ltb-false (2 ^ 48) (x.taken + length p) e) (ltb (length o) 1029) refl

      past_state : (b : Bool) → ltb 65536 (length p) ≡ b → Nonzero (feed_of F a x p o).answer
      past_state true e = by _ (long_piece F a x p o area count held taken known (ltb-true 65536 (length p) e)) (λ k. omega arith)
      past_state false e = past_length (ltb-false 65536 (length p) e) (ltb (2 ^ 48) (x.taken + length p)) refl

    past_taken : x.count ≤ 1029 → x.count ≤ x.taken → x.taken ≤ 2 ^ 48 → (b : Bool) → ltb 1 x.mode ≡ b → Nonzero (feed_of F a x p o).answer
    past_taken c d t true e = by _ (wrong_mode F a x p o area c d t (ltb-true 1 x.mode e)) (λ k. omega arith)
    past_taken c d t false e = past_state c d t (ltb-false 1 x.mode e) (ltb 65536 (length p)) refl

    past_held : x.count ≤ 1029 → x.count ≤ x.taken → (b : Bool) → ltb (2 ^ 48) x.taken ≡ b → Nonzero (feed_of F a x p o).answer
    past_held c d true e = by _ (over_limit F a x p o area c d (ltb-true (2 ^ 48) x.taken e)) (λ k. omega arith)
    past_held c d false e = past_taken c d (ltb-false (2 ^ 48) x.taken e) (ltb 1 x.mode) refl

    past_count : x.count ≤ 1029 → (b : Bool) → ltb x.taken x.count ≡ b → Nonzero (feed_of F a x p o).answer
    past_count c true e = by _ (over_taken F a x p o area c (ltb-true x.taken x.count e)) (λ k. omega arith)
    past_count c false e = past_held c (ltb-false x.taken x.count e) (ltb (2 ^ 48) x.taken) refl

    past_area : (b : Bool) → ltb 1029 x.count ≡ b → Nonzero (feed_of F a x p o).answer
    past_area true e = by _ (wrong_count F a x p o area (ltb-true 1029 x.count e)) (λ k. omega arith)
    past_area false e = past_count (ltb-false 1029 x.count e) (ltb x.taken x.count) refl

  pub nonzero : Nonzero (feed_of F a x p o).answer
  nonzero = go (eqb (length a) 1029) refl
    where
      go : (b : Bool) → eqb (length a) 1029 ≡ b → Nonzero (feed_of F a x p o).answer
      go false e = by _ (wrong_area F a x p o (eqb-false (length a) 1029 e)) (λ k. omega arith)
      go true e = past_area (eqb-true (length a) 1029 e) (ltb 1029 x.count) refl

-- ---- from the eight numbers back to the answer

pub same_kind : (j k : Kind) → kind_number j ≡ kind_number k → j ≡ k
same_kind Rtcm Rtcm e = refl
same_kind Ubx Ubx e = refl
same_kind Rtcm Ubx e = absurd (omega arith)
same_kind Ubx Rtcm e = absurd (omega arith)

is_more : (r : Told (FedAnswer Kind)) → Nonzero r → (t s m n : ℕ) → in_numbers fed_values r ≡ numbers 0 (more_numbers t s m n)
    → (y : Scanner) × (r ≡ Accepted (More t s y)) × (y.count ≡ m) × (y.taken ≡ n)
is_more (Accepted (More t' s' y)) z t s m n e =
    let a : t' ≡ t = ap (λ n. get_or n.extra 1 0) e in
    let b : s' ≡ s = ap (λ n. get_or n.extra 2 0) e in
    (y, (λ j. Accepted (More (a j) (b j) y)), ap (λ n. get_or n.extra 3 0) e, ap (λ n. get_or n.extra 6 0) e)
is_more (Accepted (Frame l' t' s' i' k' y)) z t s m n e = let a : ◌≡◌ {A = ℕ} 1 0 = ap (λ n. get_or n.extra 0 0) e in absurd (omega arith)
is_more (Refused c carried) z t s m n e = absurd (z (ap (λ n. n.number) e))

is_frame : (r : Told (FedAnswer Kind)) → Nonzero r → (l t s i : ℕ) (k : Kind) (m n : ℕ) → in_numbers fed_values r ≡ numbers 0 (frame_numbers l t s i k m n)
    → (y : Scanner) × (r ≡ Accepted (Frame l t s i k y)) × (y.count ≡ m) × (y.taken ≡ n)
is_frame (Accepted (Frame l' t' s' i' k' y)) z l t s i k m n e =
    let a : t' ≡ t = ap (λ n. get_or n.extra 1 0) e in
    let b : s' ≡ s = ap (λ n. get_or n.extra 2 0) e in
    let c : l' ≡ l = ap (λ n. get_or n.extra 4 0) e in
    let d : i' ≡ i = ap (λ n. get_or n.extra 5 0) e in
    let f : k' ≡ k = same_kind k' k (ap (λ n. get_or n.extra 7 0) e) in
    (y, (λ j. Accepted (Frame (c j) (a j) (b j) (d j) (f j) y)), ap (λ n. get_or n.extra 3 0) e, ap (λ n. get_or n.extra 6 0) e)
is_frame (Accepted (More t' s' y)) z l t s i k m n e = let a : ◌≡◌ {A = ℕ} 0 1 = ap (λ n. get_or n.extra 0 0) e in absurd (omega arith)
is_frame (Refused c carried) z l t s i k m n e = absurd (z (ap (λ n. n.number) e))

-- ---- one call that returns 0

pub sized_zero : {Areas : Type 0} (c : Bool) (e : List ℕ) (x : Areas) (r : Returned Areas) {e' : List ℕ} {y : Areas} → if_sized c e x r ≡ returned 0 e' y → r ≡ returned 0 e' y
sized_zero true e x r h = h
sized_zero false e x r h = let z : ◌≡◌ {A = ℕ} 9 0 = ap (λ n. n.answer.number) h in absurd (omega arith)

tells : (a o : List ℕ) (w : FedOutcome Kind) (e : List ℕ) {e' b q : List ℕ} → feeds a o w e ≡ returned 0 e' (b, q) → (in_numbers fed_values w.answer ≡ numbers 0 e') × (w.areas ≡ (b, q))
unfolding feeds answered
tells a o w e h =
    let x = sized_zero (eqb (length e) 8) e (a, o) _ (sized_zero (eqb (length a) 1029) e (a, o) _ h) in
    (ap (λ n. n.answer) x, ap (λ n. n.areas) x)

module _ (mode : ℕ) (a : List ℕ) (m n : ℕ) (p o e : List ℕ) {b q : List ℕ} {t s m' n' : ℕ} where
  more_call : pv_feed mode a m n p o e ≡ returned 0 (more_numbers t s m' n') (b, q) → feed_of (framing_of mode) a (scanner_of m n mode) p o ≡ outcome (Accepted (More t s (scanner_of m' n' mode))) (b, q)
  more_call h =
      let x = scanner_of m n mode in
      let g = tells a o (feed_of (framing_of mode) a x p o) e h in
      let r = is_more (feed_of (framing_of mode) a x p o).answer (nonzero (framing_of mode) a x p o) t s m' n' g.0 in
      let f : feed_of (framing_of mode) a x p o ≡ outcome (Accepted (More t s r.0)) (b, q) = λ j. outcome (r.1 j) (g.1 j) in
      let k = more_keeps (framing_of mode) a x p o (lawful mode) t s r.0 b q (sym f) in
      f ∙ (λ j. outcome (Accepted (More t s (record { count = r.2 j; taken = r.3 j; mode = k.3 j }))) (b, q))

  frame_call : {l i : ℕ} {k : Kind} → pv_feed mode a m n p o e ≡ returned 0 (frame_numbers l t s i k m' n') (b, q)
      → feed_of (framing_of mode) a (scanner_of m n mode) p o ≡ outcome (Accepted (Frame l t s i k (scanner_of m' n' mode))) (b, q)
  frame_call {l} {i} {k} h =
      let x = scanner_of m n mode in
      let g = tells a o (feed_of (framing_of mode) a x p o) e h in
      let r = is_frame (feed_of (framing_of mode) a x p o).answer (nonzero (framing_of mode) a x p o) l t s i k m' n' g.0 in
      let f : feed_of (framing_of mode) a x p o ≡ outcome (Accepted (Frame l t s i k r.0)) (b, q) = λ j. outcome (r.1 j) (g.1 j) in
      let c = frame_keeps (framing_of mode) a x p o (lawful mode) l t s i k r.0 b q (sym f) in
      f ∙ (λ j. outcome (Accepted (Frame l t s i k (record { count = r.2 j; taken = r.3 j; mode = c.4 j }))) (b, q))

-- ---- the calls as the library makes them

module _ (mode : ℕ) where
  offered : {a p b : List ℕ} {m n s v w : ℕ} {fs : List (Handed Kind)} → PvOffered mode a m n p fs s b v w → frames.Offered (framing_of mode) a (scanner_of m n mode) p fs s b (scanner_of v w mode)
  offered (last {a} {p} {b} {q} {m} {n} {t} {s} o e h) = frames.last {q = q} {t = t} o (more_call mode a m n p o e h)
  offered (then {a} {p} {b} {q} {c} {m} {n} {t} {s} {l} {i} o e h r) = frames.then {q = q} {t = t} o (frame_call mode a m n p o e h) (offered r)

  offers : {a b : List ℕ} {m n s v w : ℕ} {ps : List (List ℕ)} {fs : List (Handed Kind)} → PvOffers mode a m n ps fs s b v w → frames.Offers (framing_of mode) a (scanner_of m n mode) ps fs s b (scanner_of v w mode)
  offers end = frames.end
  offers (piece x xs) = frames.piece (offered x) (offers xs)

  pub calls : {s a : List ℕ} {fs : List (Handed Kind)} {z m n : ℕ} → PvCalls mode s fs z a m n → frames.Calls (framing_of mode) s fs z a (scanner_of m n mode)
  calls (fresh a) = frames.fresh a mode
  calls (more {s} {a} {b} {q} {fs} {z} {m} {n} {t} p o e c h) = frames.more {q = q} {t = t} p o (calls c) (more_call mode a m n p o e h)
  calls (frame {s} {a} {b} {q} {fs} {z} {m} {n} {l} {t} k p o e c h) = frames.frame {q = q} {t = t} p o (calls c) (frame_call mode a m n p o e h)

  -- ---- the promises

  -- DEMAND 3. From fresh, pieces that are each fed until More hand out the frames of the scan of the pieces joined, each with its kind and its place in the joined stream, skip as many bytes, and hold the same; the held count counts it, and the bytes taken are those of the pieces.
  pub pv_demand : {a b : List ℕ} {s m n : ℕ} {ps : List (List ℕ)} {fs : List (Handed Kind)} → PvOffers mode a 0 0 ps fs s b m n
      → Scans (framing_of mode) 0 (flatten ps) fs s (take m b) × (length (take m b) ≡ m) × (n ≡ length (flatten ps))
  pv_demand x = let y = demand mode (offers x) in (y.0, y.1, y.2)

  -- THE SUM. Bytes taken are the bytes in frames, plus skipped, plus held; skipped is the number of places before the held bytes that the scan of all that was taken skips.
  pub pv_sum : {s a : List ℕ} {fs : List (Handed Kind)} {z m n : ℕ} → PvCalls mode s fs z a m n
      → (length s ≡ framed fs + z + m) × (skips_before (length s - m) (placed 0 (scan (decide (framing_of mode)) s).items) ≡ z)
  pv_sum c = (sum mode (calls c), skipped_places (framing_of mode) (lawful mode) (calls c))
