-- What an accepted answer says of the call, and that it is about the first frame of the whole-stream scan. Assumes nothing.
use mathlib.Core.Path.{◌≡◌, refl, sym, ap, ◌∙◌, subst}
use mathlib.Core.List.{List, [], ◌∷◌, ◌++◌}
use Prim.Native.Nat.{ℕ, ◌+◌, ◌≤◌, ◌<◌}
use native.Mathlib.Omega.{arith}
use lib.ListN.{length, take, drop, length-append, length-drop}
use lib.Seq.{take-append_seam, length-take-le}
use Rattle.bits.specs.Told.{Told, Accepted}
use Rattle.bits.specs.Outcome.{outcome}
use Rattle.frames.specs.Scan.{Item, scan, frames_of, skipped_of}
use Rattle.frames.specs.Framing.{Framing, decide, Lawful}
use Rattle.frames.specs.Feed as fed
use Rattle.frames.specs.Feed.{Fed, feed}
use Rattle.bits.specs.Onto.{onto}
use Rattle.frames.specs.Call.{Scanner, held_from, onwards, FedAnswer, More, Frame, FedOutcome, called, feed_of}
use Rattle.frames.proofs.FramingLaws.{decides, waits_short}
use Rattle.frames.proofs.KeptLaws.{Kept, kept, skipped_alone, bytes_alone, HeldWithin, held_within}
use Rattle.frames.proofs.FeedLaws.{First, first_frame}
use Rattle.frames.proofs.CallLaws.{Fits, accepted, accepts}

-- the held area keeps its size
pub area_stays : (a g : List ℕ) → length a ≡ 1029 → length g ≤ 1029 → length (onto g a) ≡ 1029
area_stays a g r l = rw (length-append, length-drop) (omega arith)

module _ {W K : Type 0} (F : Framing W K) (a : List ℕ) (x : Scanner) (p : List ℕ) where
  -- the bytes held before
  abbrev h : List ℕ
  h = take x.count a

  -- More: the whole piece was taken, some bytes skipped and no frame found; fewer than 1,029 bytes are held, at the front of the area
  pub record IsMore (t s : ℕ) (y : Scanner) (b : List ℕ) : Type 0 where
    pub items : List (Item W K)
    pub gives : feed (decide F) h p ≡ fed.More t items (take y.count b)
    pub keeps : Kept h p (fed.More t items (take y.count b))
    pub count : skipped_of items ≡ s
    pub within : y.count < 1029
    pub held : length (take y.count b) ≡ y.count
    pub area : length b ≡ 1029
    pub left : onwards x t y.count ≡ y

  -- Frame: some bytes of the piece were taken, some skipped; the frame stands at the front of the output, what is held at the front of the area
  pub record IsFrame (l t s i : ℕ) (k : K) (y : Scanner) (b q : List ℕ) : Type 0 where
    pub items : List (Item W K)
    pub gives : feed (decide F) h p ≡ fed.Frame t items k (take l q) (take y.count b)
    pub keeps : Kept h p (fed.Frame t items k (take l q) (take y.count b))
    pub count : skipped_of items ≡ s
    pub place : held_from x + length items ≡ i
    pub within : y.count ≤ 1029
    pub whole : length (take l q) ≡ l
    pub held : length (take y.count b) ≡ y.count
    pub area : length b ≡ 1029
    pub left : onwards x t y.count ≡ y

  module _ (o : List ℕ) where
    of_more : (G : Fed W K) → feed (decide F) h p ≡ G → Kept h p G → HeldWithin 1029 G → length a ≡ 1029
        → (t s : ℕ) (y : Scanner) (b q : List ℕ) → called G x a o ≡ outcome (Accepted (More t s y)) (b, q) → IsMore t s y b
    of_more (fed.More u is g) e k w r t s y b q v =
        let told : ◌≡◌ {A = Told (FedAnswer K)} (Accepted (More u (length is) (onwards x u (length g)))) (Accepted (More t s y)) = ap (λ z. z.answer) v in
        let yt : u ≡ t = cc in
        let ys : length is ≡ s = cc in
        let yl : onwards x u (length g) ≡ y = cc in
        let ym : length g ≡ y.count = ap (λ z. z.count) yl in
        let z : onto g a ≡ b = ap (λ z. z.areas.0) v in
        let held : take y.count b ≡ g = rw (← ym, ← z) (take-append_seam g (drop (length g) a)) in
        let same : fed.More u is g ≡ fed.More t is (take y.count b) = rw (yt, held) in
        record {
          items = is;
          gives = e ∙ same;
          keeps = subst (Kept h p) same k;
          count = skipped_alone is k.1.none ∙ ys;
          within = omega (arith, w, ym);
          held = ap length held ∙ ym;
          area = rw (← z) (area_stays a g r (omega (arith, w)));
          left = (λ j. onwards x (sym yt j) (sym ym j)) ∙ yl;
        }
    of_more (fed.Frame u is k f g) e kk w r t s y b q v =
        let told : ◌≡◌ {A = Told (FedAnswer K)} (Accepted (Frame (length f) u (length is) (held_from x + length is) k (onwards x u (length g)))) (Accepted (More t s y)) = ap (λ z. z.answer) v in
        let z : ◌≡◌ {A = ℕ} 0 1 = cc in absurd (omega arith)

    of_frame : (G : Fed W K) → feed (decide F) h p ≡ G → Kept h p G → HeldWithin 1029 G → length a ≡ 1029
        → (l t s i : ℕ) (k : K) (y : Scanner) (b q : List ℕ) → called G x a o ≡ outcome (Accepted (Frame l t s i k y)) (b, q) → IsFrame l t s i k y b q
    of_frame (fed.Frame u is j f g) e kk w r l t s i k y b q v =
        let told : ◌≡◌ {A = Told (FedAnswer K)} (Accepted (Frame (length f) u (length is) (held_from x + length is) j (onwards x u (length g)))) (Accepted (Frame l t s i k y)) = ap (λ z. z.answer) v in
        let yl : length f ≡ l = cc in
        let yt : u ≡ t = cc in
        let ys : length is ≡ s = cc in
        let yi : held_from x + length is ≡ i = cc in
        let yk : j ≡ k = cc in
        let yn : onwards x u (length g) ≡ y = cc in
        let ym : length g ≡ y.count = ap (λ z. z.count) yn in
        let z : onto g a ≡ b = ap (λ z. z.areas.0) v in
        let c : onto f o ≡ q = ap (λ z. z.areas.1) v in
        let held : take y.count b ≡ g = rw (← ym, ← z) (take-append_seam g (drop (length g) a)) in
        let out : take l q ≡ f = rw (← yl, ← c) (take-append_seam f (drop (length f) o)) in
        let same : fed.Frame u is j f g ≡ fed.Frame t is k (take l q) (take y.count b) = λ n. fed.Frame (yt n) is (yk n) (sym out n) (sym held n) in
        let few : length g ≤ 1029 = omega (arith, simp length-append at w) in
        record {
          items = is;
          gives = e ∙ same;
          keeps = subst (Kept h p) same kk;
          count = skipped_alone is kk.1.none ∙ ys;
          place = yi;
          within = omega (arith, few, ym);
          whole = ap length out ∙ yl;
          held = ap length held ∙ ym;
          area = rw (← z) (area_stays a g r few);
          left = (λ n. onwards x (sym yt n) (sym ym n)) ∙ yn;
        }
    of_frame (fed.More u is g) e kk w r l t s i k y b q v =
        let told : ◌≡◌ {A = Told (FedAnswer K)} (Accepted (More u (length is) (onwards x u (length g)))) (Accepted (Frame l t s i k y)) = ap (λ z. z.answer) v in
        let z : ◌≡◌ {A = ℕ} 0 1 = cc in absurd (omega arith)

    -- the held bytes are as many as the count says
    pub held_count : Fits a x p o → length h ≡ x.count
    held_count f = length-take-le x.count a (omega (arith, f.area, f.count))

    module _ (L : Lawful F) where
      -- held bytes, with the frame that was handed out before them, stay within 1,029
      pub stays_within : Fits a x p o → HeldWithin 1029 (feed (decide F) h p)
      stays_within f = held_within (decide F) 1029 (omega arith) (waits_short F L) p h (rw (held_count f) f.count)

      pub is_more : (t s : ℕ) (y : Scanner) (b q : List ℕ) → feed_of F a x p o ≡ outcome (Accepted (More t s y)) (b, q) → IsMore t s y b
      is_more t s y b q e =
          let u = accepts F a x p o (More t s y) b q e in
          of_more (feed (decide F) h p) refl (kept (decide F) p h) (stays_within u.0) u.0.area t s y b q u.1

      pub is_frame : (l t s i : ℕ) (k : K) (y : Scanner) (b q : List ℕ) → feed_of F a x p o ≡ outcome (Accepted (Frame l t s i k y)) (b, q) → IsFrame l t s i k y b q
      is_frame l t s i k y b q e =
          let u = accepts F a x p o (Frame l t s i k y) b q e in
          of_frame (feed (decide F) h p) refl (kept (decide F) p h) (stays_within u.0) u.0.area l t s i k y b q u.1

      -- ---- every byte is kept: those held and taken are skipped, in the frame, or held then; and the scanner counts them

      pub more_keeps : (t s : ℕ) (y : Scanner) (b q : List ℕ) → outcome (Accepted (More t s y)) (b, q) ≡ feed_of F a x p o
          → (x.count + length p ≡ s + y.count) × (y.count ≤ 1029) × (y.taken ≡ x.taken + length p) × (y.mode ≡ x.mode)
      more_keeps t s y b q e =
          let g = is_more t s y b q (sym e) in
          let u = simp length-append at (ap length g.keeps.1.bytes) in
          let v = held_count (accepts F a x p o (More t s y) b q (sym e)).0 in (
            omega (arith, u, v, g.held, g.count, skipped_alone g.items g.keeps.1.none, bytes_alone g.items g.keeps.1.none),
            omega (arith, g.within),
            sym (ap (λ z. z.taken) g.left) ∙ ap (λ n. x.taken + n) g.keeps.0,
            sym (ap (λ z. z.mode) g.left),
          )

      pub frame_keeps : (l t s i : ℕ) (k : K) (y : Scanner) (b q : List ℕ) → outcome (Accepted (Frame l t s i k y)) (b, q) ≡ feed_of F a x p o
          → (t ≤ length p) × (x.count + t ≡ s + l + y.count) × (y.count ≤ 1029) × (y.taken ≡ x.taken + t) × (y.mode ≡ x.mode)
      frame_keeps l t s i k y b q e =
          let g = is_frame l t s i k y b q (sym e) in
          let u = simp length-append at (ap length g.keeps.1.bytes) in
          let v = held_count (accepts F a x p o (Frame l t s i k y) b q (sym e)).0 in
          let w = length-take-le t p g.keeps.0 in (
            g.keeps.0,
            omega (arith, u, v, w, g.held, g.whole, g.count, skipped_alone g.items g.keeps.1.none, bytes_alone g.items g.keeps.1.none),
            g.within,
            sym (ap (λ z. z.taken) g.left),
            sym (ap (λ z. z.mode) g.left),
          )

      -- ---- the first frame of the whole-stream scan

      -- where the scan hands out no frame, More; else a frame, the first, at the front of the output
      abbrev pub AnswersFirst : List (List ℕ) → FedOutcome K → Type 0
      AnswersFirst [] w = (t : ℕ) × (s : ℕ) × (y : Scanner) × (b : List ℕ) × (w ≡ outcome (Accepted (More t s y)) (b, o))
      AnswersFirst (f ∷ fs) w = (t : ℕ) × (s : ℕ) × (k : K) × (y : Scanner) × (b : List ℕ) × (w ≡ outcome (Accepted (Frame (length f) t s (held_from x + s) k y)) (b, onto f o))

      of_first : (G : Fed W K) → First (decide F) h p G → AnswersFirst (frames_of (scan (decide F) (h ++ p)).items) (called G x a o)
      of_first (fed.More t is g) e = rw e (t, length is, onwards x t (length g), onto g a, refl)
      of_first (fed.Frame t is k f g) e = rw e (t, length is, k, onwards x t (length g), onto g a, refl)

      -- A CALL answers More exactly if the whole-stream scan of the held bytes and the piece hands out no frame, else its first frame.
      pub answers_first : Fits a x p o → AnswersFirst (frames_of (scan (decide F) (h ++ p)).items) (feed_of F a x p o)
      answers_first f = rw (accepted F a x p o f) (of_first (feed (decide F) h p) (first_frame (decide F) (decides F L) h p))
