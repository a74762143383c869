-- Closing calls until Done give the scan of the end, and come to Done; and every byte of a recording is in exactly one frame, fed or salvaged, or given up for a reason. Assumes nothing.
use mathlib.Core.Path.{◌≡◌, refl, sym, ap, ◌∙◌}
use mathlib.Core.List.{List, [], ◌∷◌, ◌++◌, append-nil, append_assoc}
use Prim.Native.Nat.{ℕ, zero, suc, ◌+◌, ◌≤◌, ◌<◌, pred}
use native.Mathlib.Nat.{not-suc-le-zero}
use native.Mathlib.Omega.{arith}
use lib.ListN.{length, take, drop, length-append}
use lib.Seq.{take-append_seam}
use Rattle.bits.specs.Told.{Told, Accepted, Refused}
use Rattle.bits.specs.Outcome.{outcome}
use Rattle.bits.specs.Onto.{onto}
use Rattle.frames.specs.Scan.{Decision, Skip, Take, Wait, Item, Skipped, Framed, Handed, after, step, scan_past, scan, bytes_of, handed, skipped_of, framed}
use Rattle.frames.specs.Framing.{Framing, Lawful, decide}
use Rattle.frames.specs.Feed.{Next, Held, Found, next, only}
use Rattle.frames.specs.Call as call
use Rattle.frames.specs.Call.{Scanner, afresh, held_from, onwards, FedAnswer, called, feed_of}
use Rattle.frames.specs.Close.{Gave, closing, closed, ending, Done, Frame, closed_by, close_of}
use Rattle.frames.specs.Offered.{handed_out, Calls}
use Rattle.frames.proofs.FramingLaws.{Whole, decides}
use Rattle.frames.proofs.ItemLaws.{bytes_append, handed_append, handed_none, handed_one, skipped_append, length_items}
use Rattle.frames.proofs.FeedLaws.{begins, scan_next}
use Rattle.frames.proofs.KeptLaws.{Kept, kept, skipped_alone, bytes_alone}
use Rattle.frames.proofs.CallLaws.{Fits, accepted, accepts}
use Rattle.frames.proofs.AnswerLaws.{area_stays, held_count}
use Rattle.frames.proofs.CloseLaws.{closing_whole, ending_decides, close_is, close_by, all_given, every_byte_once, sum_closed}
use Rattle.closing.specs.Closing.{Closes, done, then}

-- ---- two deciders that agree on every byte scan alike

module _ {W K : Type 0} (d e : List ℕ → Decision W K) (same : (x : ℕ) (xs : List ℕ) → d (x ∷ xs) ≡ e (x ∷ xs)) where
  same_step : (x : ℕ) (xs : List ℕ) → ((m : ℕ) → scan_past d m xs ≡ scan_past e m xs) → (q : Decision W K)
      → step q x xs (λ n. scan_past d n xs) ≡ step q x xs (λ n. scan_past e n xs)
  same_step x xs ih (Skip w) = ap (after (Skipped w x ∷ [])) (ih 0)
  same_step x xs ih (Take k n) = ap (after (Framed k (take n (x ∷ xs)) ∷ [])) (ih (pred n))
  same_step x xs ih Wait = refl

  same_past : (m : ℕ) (s : List ℕ) → scan_past d m s ≡ scan_past e m s
  same_past zero [] = refl
  same_past (suc m) [] = refl
  same_past (suc m) (x ∷ xs) = same_past m xs
  same_past zero (x ∷ xs) = rw (same x xs) (same_step x xs (λ m. same_past m xs) (e (x ∷ xs)))

-- what was told of a call that is fed nothing, from what a closing call tells
module _ {K : Type 0} where
  pub is_done : (r : Told (FedAnswer K)) (s : ℕ) (y : Scanner) → closed_by r ≡ Accepted (Done s y) → (t : ℕ) × (z : Scanner) × (r ≡ Accepted (call.More t s z)) × (afresh z ≡ y)
  is_done (Accepted (call.More t u z)) s y e =
      let us : u ≡ s = cc in
      let zy : afresh z ≡ y = cc in
      (t, z, ap (λ n. Accepted (call.More t n z)) us, zy)
  is_done (Accepted (call.Frame l t u i k z)) s y e = let z : ◌≡◌ {A = ℕ} 0 1 = cc in absurd (omega arith)
  is_done (Refused n cs) s y e = let z : ◌≡◌ {A = ℕ} 0 1 = cc in absurd (omega arith)

  pub is_found : (r : Told (FedAnswer K)) (l s i : ℕ) (k : K) (y : Scanner) → closed_by r ≡ Accepted (Frame l s i k y) → (t : ℕ) × (r ≡ Accepted (call.Frame l t s i k y))
  is_found (Accepted (call.More t u z)) l s i k y e = let z : ◌≡◌ {A = ℕ} 0 1 = cc in absurd (omega arith)
  is_found (Accepted (call.Frame m t u j d z)) l s i k y e =
      let ml : m ≡ l = cc in
      let us : u ≡ s = cc in
      let ji : j ≡ i = cc in
      let dk : d ≡ k = cc in
      let zy : z ≡ y = cc in
      (t, λ n. Accepted (call.Frame (ml n) t (us n) (ji n) (dk n) (zy n)))
  is_found (Refused n cs) l s i k y e = let z : ◌≡◌ {A = ℕ} 0 1 = cc in absurd (omega arith)

module _ {W K : Type 0} (F : Framing W K) where
  ending_scan : (h : List ℕ) → scan (decide (ending F)) h ≡ scan (closing (decide F)) h
  ending_scan h = same_past (decide (ending F)) (closing (decide F)) (ending_decides F) 0 h

  module _ (L : Lawful F) where
    ending_whole : Whole (decide (ending F))
    ending_whole [] k n e = let z : ◌≡◌ {A = ℕ} 0 1 = cc in absurd (omega arith)
    ending_whole (x ∷ xs) k n e = closing_whole (decide F) (decides F L).whole (x ∷ xs) k n (sym (ending_decides F x xs) ∙ e)

    closed_next : (h : List ℕ) → scan (closing (decide F)) h ≡ begins (decide (ending F)) (next (decide (ending F)) h)
    closed_next h = sym (ending_scan h) ∙ scan_next (decide (ending F)) ending_whole h

    -- ---- what a closing call says

    module _ (a : List ℕ) (x : Scanner) (o b q : List ℕ) (s t : ℕ) (y : Scanner) where
      abbrev h : List ℕ
      h = take x.count a

      -- Done: all that was held is skipped
      abbrev Ends : Type 0
      Ends = (handed (held_from x) (closed F h) ≡ []) × (skipped_of (closed F h) ≡ s) × (y.mode ≡ x.mode)

      -- Frame: some bytes are skipped, the frame is in the output, and the rest is held
      abbrev Stops : ℕ → ℕ → K → Type 0
      Stops l i k =
          (handed (held_from x) (closed F h) ≡ handed_out i k l q ∷ handed (held_from y) (closed F (take y.count b)))
          × (skipped_of (closed F h) ≡ s + skipped_of (closed F (take y.count b))) × (y.mode ≡ x.mode)

      of_done : (r : Next (Gave W) K) → scan (closing (decide F)) h ≡ begins (decide (ending F)) r → Kept h [] (only r)
          → called (only r) x a o ≡ outcome (Accepted (call.More t s y)) (b, q) → Ends
      of_done (Held is g) e k v =
          let told : ◌≡◌ {A = Told (FedAnswer K)} (Accepted (call.More 0 (length is) (onwards x 0 (length g)))) (Accepted (call.More t s y)) = ap (λ z. z.answer) v in
          let ys : length is ≡ s = cc in
          let yl : onwards x 0 (length g) ≡ y = cc in
          let all : closed F h ≡ is = ap (λ r. r.items) e in
          (ap (handed (held_from x)) all ∙ handed_none (held_from x) is k.1.none, ap skipped_of all ∙ skipped_alone is k.1.none ∙ ys, sym (ap (λ z. z.mode) yl))
      of_done (Found is j f g) e k v =
          let told : ◌≡◌ {A = Told (FedAnswer K)} (Accepted (call.Frame (length f) 0 (length is) (held_from x + length is) j (onwards x 0 (length g)))) (Accepted (call.More t s y)) = ap (λ z. z.answer) v in
          let z : ◌≡◌ {A = ℕ} 0 1 = cc in absurd (omega arith)

      of_found : (l i : ℕ) (k : K) (r : Next (Gave W) K) → scan (closing (decide F)) h ≡ begins (decide (ending F)) r → Kept h [] (only r) → Fits a x [] o
          → called (only r) x a o ≡ outcome (Accepted (call.Frame l t s i k y)) (b, q) → Stops l i k
      of_found l i k (Held is g) e kp fits v =
          let told : ◌≡◌ {A = Told (FedAnswer K)} (Accepted (call.More 0 (length is) (onwards x 0 (length g)))) (Accepted (call.Frame l t s i k y)) = ap (λ z. z.answer) v in
          let z : ◌≡◌ {A = ℕ} 0 1 = cc in absurd (omega arith)
      of_found l i k (Found is j f g) e kp fits v =
          let told : ◌≡◌ {A = Told (FedAnswer K)} (Accepted (call.Frame (length f) 0 (length is) (held_from x + length is) j (onwards x 0 (length g)))) (Accepted (call.Frame l t s i k y)) = ap (λ z. z.answer) v in
          let yl : length f ≡ l = cc in
          let ys : length is ≡ s = cc in
          let yi : held_from x + length is ≡ i = cc in
          let yk : j ≡ k = cc in
          let yn : onwards x 0 (length g) ≡ y = cc in
          let ym : length g ≡ y.count = ap (λ z. z.count) yn in
          let yt : x.taken + 0 ≡ y.taken = ap (λ z. z.taken) yn in
          let z : onto g a ≡ b = ap (λ z. z.areas.0) v in
          let w : onto f o ≡ q = ap (λ z. z.areas.1) v in
          let tg : take y.count b ≡ g = rw (← ym, ← z) (take-append_seam g (drop (length g) a)) in
          let tf : take l q ≡ f = rw (← yl, ← w) (take-append_seam f (drop (length f) o)) in
          let js : List (Item (Gave W) K) = is ++ (Framed j f ∷ []) in
          let u : closed F h ≡ js ++ closed F g = ap (λ r. r.items) (e ∙ ap (after js) (ending_scan g)) in
          let bs : bytes_of js ++ g ≡ h = simp (bytes_append, append_assoc, append-nil) (kp.1.bytes ∙ append-nil h) in
          let len = simp length-append at (ap length bs) in
          let at : held_from x + length (bytes_of js) ≡ held_from y = omega (arith, len, yt, ym, held_count (ending F) a x [] o fits, fits.held) in
          let one : ◌≡◌ {A = List (Handed K)} (handed (held_from x) js) (handed_out i k l q ∷ []) =
          handed_one (held_from x) is j f kp.1.none ∙ (λ n. record { place = yi n; kind = yk n; bytes = sym tf n } ∷ []) in
          let sum : skipped_of js ≡ s = skipped_append is (Framed j f ∷ []) ∙ rw (skipped_alone is kp.1.none) (omega (arith, ys)) in (
            ap (handed (held_from x)) u ∙ handed_append (held_from x) js (closed F g) ∙ (λ n. one n ++ handed (at n) (closed F (sym tg n))),
            ap skipped_of u ∙ skipped_append js (closed F g) ∙ (λ n. sum n + skipped_of (closed F (sym tg n))),
            sym (ap (λ z. z.mode) yn),
          )

    module _ (a : List ℕ) (x : Scanner) (o b q : List ℕ) (s : ℕ) (y : Scanner) where
      call_ends : close_of F a x o ≡ outcome (Accepted (Done s y)) (b, q)
          → (handed (held_from x) (closed F (take x.count a)) ≡ []) × (skipped_of (closed F (take x.count a)) ≡ s) × (y ≡ afresh x)
      call_ends e =
          let r = is_done (feed_of (ending F) a x [] o).answer s y (ap (λ z. z.answer) (sym (close_is F a x o) ∙ e)) in
          let f : feed_of (ending F) a x [] o ≡ outcome (Accepted (call.More r.0 s r.1)) (b, q) = λ j. outcome (r.2 j) ((sym (close_is F a x o) ∙ e) j).areas in
          let g = of_done a x o b q s r.0 r.1 (next (decide (ending F)) (take x.count a)) (closed_next (take x.count a)) (kept (decide (ending F)) [] (take x.count a)) (accepts (ending F) a x [] o (call.More r.0 s r.1) b q f).1 in
          (g.0, g.1, sym r.3 ∙ (λ j. call.fresh (g.2 j)))

      call_stops : (l i : ℕ) (k : K) → close_of F a x o ≡ outcome (Accepted (Frame l s i k y)) (b, q)
          → (handed (held_from x) (closed F (take x.count a)) ≡ handed_out i k l q ∷ handed (held_from y) (closed F (take y.count b)))
          × (skipped_of (closed F (take x.count a)) ≡ s + skipped_of (closed F (take y.count b))) × (y.mode ≡ x.mode)
      call_stops l i k e =
          let r = is_found (feed_of (ending F) a x [] o).answer l s i k y (ap (λ z. z.answer) (sym (close_is F a x o) ∙ e)) in
          let f : feed_of (ending F) a x [] o ≡ outcome (Accepted (call.Frame l r.0 s i k y)) (b, q) = λ j. outcome (r.1 j) ((sym (close_is F a x o) ∙ e) j).areas in
          let v = accepts (ending F) a x [] o (call.Frame l r.0 s i k y) b q f in
          of_found a x o b q s r.0 y l i k (next (decide (ending F)) (take x.count a)) (closed_next (take x.count a)) (kept (decide (ending F)) [] (take x.count a)) v.0 v.1

    -- ---- every byte that was held is skipped, in the frame or held then

    module _ (a : List ℕ) (x : Scanner) (o b q : List ℕ) (s : ℕ) (y : Scanner) where
      count_found : (l t i : ℕ) (k : K) (r : Next (Gave W) K) → Kept (take x.count a) [] (only r)
          → called (only r) x a o ≡ outcome (Accepted (call.Frame l t s i k y)) (b, q) → length (take x.count a) ≡ s + l + y.count
      count_found l t i k (Held is g) kp v =
          let told : ◌≡◌ {A = Told (FedAnswer K)} (Accepted (call.More 0 (length is) (onwards x 0 (length g)))) (Accepted (call.Frame l t s i k y)) = ap (λ z. z.answer) v in
          let z : ◌≡◌ {A = ℕ} 0 1 = cc in absurd (omega arith)
      count_found l t i k (Found is j f g) kp v =
          let told : ◌≡◌ {A = Told (FedAnswer K)} (Accepted (call.Frame (length f) 0 (length is) (held_from x + length is) j (onwards x 0 (length g)))) (Accepted (call.Frame l t s i k y)) = ap (λ z. z.answer) v in
          let yl : length f ≡ l = cc in
          let ys : length is ≡ s = cc in
          let yn : onwards x 0 (length g) ≡ y = cc in
          let ym : length g ≡ y.count = ap (λ z. z.count) yn in
          let len = simp length-append at (ap length kp.1.bytes) in
          omega (arith, len, yl, ys, ym, bytes_alone is kp.1.none)

      pub done_keeps : outcome (Accepted (Done s y)) (b, q) ≡ close_of F a x o → x.count ≡ s
      done_keeps e =
          let g = call_ends a x o b q s y (sym e) in
          let r = is_done (feed_of (ending F) a x [] o).answer s y (ap (λ z. z.answer) (sym (close_is F a x o) ∙ sym e)) in
          let f : feed_of (ending F) a x [] o ≡ outcome (Accepted (call.More r.0 s r.1)) (b, q) = λ j. outcome (r.2 j) ((sym (close_is F a x o) ∙ sym e) j).areas in
          let n = held_count (ending F) a x [] o (accepts (ending F) a x [] o (call.More r.0 s r.1) b q f).0 in
          let none : framed (handed (held_from x) (closed F (take x.count a))) ≡ 0 = ap framed g.0 in
          omega (arith, n, none, g.1, length_items (held_from x) (closed F (take x.count a)), ap length (all_given F L (take x.count a)))

      pub frame_keeps : (l i : ℕ) (k : K) → outcome (Accepted (Frame l s i k y)) (b, q) ≡ close_of F a x o → (x.count ≡ s + l + y.count) × (y.count ≤ 1029)
      frame_keeps l i k e =
          let r = is_found (feed_of (ending F) a x [] o).answer l s i k y (ap (λ z. z.answer) (sym (close_is F a x o) ∙ sym e)) in
          let f : feed_of (ending F) a x [] o ≡ outcome (Accepted (call.Frame l r.0 s i k y)) (b, q) = λ j. outcome (r.1 j) ((sym (close_is F a x o) ∙ sym e) j).areas in
          let v = accepts (ending F) a x [] o (call.Frame l r.0 s i k y) b q f in
          let n = held_count (ending F) a x [] o v.0 in
          let c = count_found l r.0 i k (next (decide (ending F)) (take x.count a)) (kept (decide (ending F)) [] (take x.count a)) v.1 in
          (omega (arith, n, c), omega (arith, n, c, v.0.count))

    -- CLOSING CALLS until Done hand out the frames of the scan of the end, at their places, and skip the rest; the scanner is fresh then, and opened for the same.
    pub closes : {a : List ℕ} {x y : Scanner} {s : ℕ} {fs : List (Handed K)} → Closes F a x fs s y
        → (handed (held_from x) (closed F (take x.count a)) ≡ fs) × (skipped_of (closed F (take x.count a)) ≡ s) × (y ≡ afresh x)
    closes (done {a} {b} {q} {x} {y} {s} o e) = call_ends a x o b q s y e
    closes (then {a} {b} {q} {x} {y} {z} {s} {l} {i} {u} {k} {fs} o e rest) =
        let g = call_stops a x o b q s y l i k e in
        let r = closes rest in
        (g.0 ∙ (λ j. handed_out i k l q ∷ r.0 j), g.1 ∙ (λ j. s + r.1 j), r.2 ∙ (λ j. call.fresh (g.2 j)))

    -- ---- and they come to Done

    abbrev pub Comes : List ℕ → Scanner → Type 0
    Comes a x = (fs : List (Handed K)) × (s : ℕ) × (y : Scanner) × Closes F a x fs s y

    is_closed : (a : List ℕ) (x : Scanner) (o : List ℕ) → Fits a x [] o → (r : Next (Gave W) K) → next (decide (ending F)) (take x.count a) ≡ r
        → close_of F a x o ≡ outcome (closed_by (called (only r) x a o).answer) (called (only r) x a o).areas
    is_closed a x o f r e =
        close_by F a x o (called (only r) x a o) (accepted (ending F) a x [] o f ∙ ap (λ r. called (only r) x a o) e)

    comes_within : (n : ℕ) (o a : List ℕ) (x : Scanner) → Fits a x [] o → length (closed F (take x.count a)) < n → Comes a x
    comes_within zero o a x f l = absurd (not-suc-le-zero l)
    comes_within (suc n) o a x f l = go (next (decide (ending F)) (take x.count a)) refl (kept (decide (ending F)) [] (take x.count a)) (λ b y g j. comes_within n o b y g j)
      where
        go : (r : Next (Gave W) K) → next (decide (ending F)) (take x.count a) ≡ r → Kept (take x.count a) [] (only r)
            → ((b : List ℕ) (y : Scanner) → Fits b y [] o → length (closed F (take y.count b)) < n → Comes b y) → Comes a x
        go (Held is g) e w ih = ([], length is, afresh x, done o (is_closed a x o f (Held is g) e))
        go (Found is j p g) e w ih =
            let m = simp length-append at (ap length w.1.bytes) in
            let lg : length g ≤ x.count = omega (arith, m, held_count (ending F) a x [] o f) in
            let tg : take (length g) (onto g a) ≡ g = take-append_seam g (drop (length g) a) in
            let js : List (Item (Gave W) K) = is ++ (Framed j p ∷ []) in
            let u : closed F (take x.count a) ≡ js ++ closed F g = ap (λ r. r.items) (closed_next (take x.count a) ∙ ap (begins (decide (ending F))) e ∙ ap (after js) (ending_scan g)) in
            let fits : Fits (onto g a) (onwards x 0 (length g)) [] o =
            record {
              area = area_stays a g f.area (omega (arith, lg, f.count));
              count = omega (arith, lg, f.count);
              held = omega (arith, lg, f.held);
              taken = omega (arith, f.taken);
              mode = f.mode;
              piece = f.piece;
              limit = omega (arith, f.limit);
              output = f.output;
            } in
            let less : length (closed F (take (length g) (onto g a))) < n = rw tg (omega (arith, simp length-append at (ap length u))) in
            let z = ih (onto g a) (onwards x 0 (length g)) fits less in
            (handed_out (held_from x + length is) j (length p) (onto p o) ∷ z.0, length is + z.1, z.2, then o (is_closed a x o f (Found is j p g) e) z.3)

    -- CLOSING COMES TO DONE after finitely many calls, with the same output lent again.
    pub comes : (a : List ℕ) (x : Scanner) (o : List ℕ) → Fits a x [] o → Comes a x
    comes a x o f = comes_within (suc (length (closed F (take x.count a)))) o a x f (omega arith)

    -- ---- the recording

    -- EVERY BYTE of a recording that is fed and then closed is in exactly one item, in order: a frame that was fed, a frame that was salvaged, or a byte that was skipped or given up, for its reason. The frames are those that the calls handed out, at their places, and the bytes skipped are those that the calls counted.
    pub every_byte_of_recording : {s a : List ℕ} {fs gs : List (Handed K)} {n u : ℕ} {x y : Scanner} → Calls F s fs n a x → Closes F a x gs u y
        → (is : List (Item W K)) × (js : List (Item (Gave W) K))
        × (handed 0 is ≡ fs) × (skipped_of is ≡ n) × (handed (held_from x) js ≡ gs) × (skipped_of js ≡ u) × (bytes_of is ++ bytes_of js ≡ s)
    every_byte_of_recording {s} {a} {fs} {gs} {n} {u} {x} c d =
        let r = every_byte_once F L c in
        let g = closes d in
        (r.0, closed F (take x.count a), r.1, r.2, g.0, g.1, r.3)

    -- THE SUM of a recording, from the answers alone: bytes taken are those in frames, fed or salvaged, and those skipped, in feeding or in closing.
    pub sum_of_recording : {s a : List ℕ} {fs gs : List (Handed K)} {n u : ℕ} {x y : Scanner} → Calls F s fs n a x → Closes F a x gs u y
        → length s ≡ (framed fs + framed gs) + (n + u)
    sum_of_recording {s} {a} {fs} {gs} {n} {u} {x} c d =
        let g = closes d in
        let e : framed (handed (held_from x) (closed F (take x.count a))) ≡ framed gs = ap framed g.0 in
        omega (arith, sum_closed F L c, e, g.1)
