-- Pieces that are each offered until More give what the whole-stream scan of the pieces joined gives, however the stream was cut; and each piece comes to More. Assumes nothing.
use mathlib.Core.Path.{◌≡◌, refl, sym, ap, ◌∙◌, subst, subst₂}
use mathlib.Core.List.{List, [], ◌∷◌, ◌++◌, append-nil, append_assoc, flatten}
use Prim.Native.Nat.{ℕ, zero, suc, ◌+◌, ◌^◌, ◌≤◌, ◌<◌}
use native.Mathlib.Nat.{not-suc-le-zero}
use native.Mathlib.Omega.{arith}
use lib.ListN.{length, take, drop, length-append, length-drop}
use lib.Seq.{take-append_seam, length-take-le}
use Rattle.bits.specs.Told.{Accepted}
use Rattle.bits.specs.Outcome.{outcome}
use Rattle.frames.specs.Scan.{Item, Framed, Handed, holding, after, scan, bytes_of, handed, skipped_of}
use Rattle.frames.specs.Framing.{Framing, decide, Lawful}
use Rattle.frames.specs.Feed as fed
use Rattle.frames.specs.Feed.{Fed, feed}
use Rattle.bits.specs.Onto.{onto}
use Rattle.frames.specs.Call.{Scanner, fresh, held_from, onwards, More, Frame, called, feed_of}
use Rattle.frames.specs.Offered.{Scans, Pieces, none, one, handed_out, Offered, last, then, Offers, end, piece}
use Rattle.frames.proofs.FramingLaws.{decides}
use Rattle.frames.proofs.ItemLaws.{bytes_append, handed_append, handed_none, handed_one, skipped_append}
use Rattle.frames.proofs.JoinLaws.{join, every_byte, held_waits}
use Rattle.frames.proofs.KeptLaws.{Kept, kept, HeldWithin}
use Rattle.frames.proofs.FeedLaws.{feed_is, of_fed}
use Rattle.frames.proofs.CallLaws.{Fits, accepted, accepts}
use Rattle.frames.proofs.AnswerLaws.{held_count, is_more, is_frame, stays_within, area_stays}

-- scanners that know the same are the same
same_scanner : {x y : Scanner} → x.count ≡ y.count → x.taken ≡ y.taken → x.mode ≡ y.mode → x ≡ y
same_scanner c t m = λ j. record { count = c j; taken = t j; mode = m j }

module _ {W K : Type 0} (F : Framing W K) where
  -- ---- what scans say together

  -- items, and then another scan
  scans_after : (n : ℕ) (x y : List ℕ) (is : List (Item W K)) (gs : List (Handed K)) (u : ℕ) (h : List ℕ)
      → scan (decide F) x ≡ after is (scan (decide F) y) → Scans F (n + length (bytes_of is)) y gs u h → Scans F n x (handed n is ++ gs) (skipped_of is + u) h
  scans_after n x y is gs u h e r =
      record {
        frames = rw e (handed_append n is (scan (decide F) y).items ∙ rw r.frames);
        skipped = rw e (skipped_append is (scan (decide F) y).items ∙ rw r.skipped);
        held = rw e r.held;
      }

  -- the scan of x, and then that of what it holds with y behind, which stands at place m
  scans_join : Lawful F → (n m : ℕ) (x y h g : List ℕ) (fs gs : List (Handed K)) (s u : ℕ)
      → Scans F n x fs s h → Scans F m (h ++ y) gs u g → m + length h ≡ n + length x → Scans F n (x ++ y) (fs ++ gs) (s + u) g
  scans_join L n m x y h g fs gs s u a b p =
      let is = (scan (decide F) x).items in
      let e = join (decide F) (decides F L) x y in
      let w = simp length-append at (ap length (every_byte (decide F) (decides F L).whole x)) in
      let q : m ≡ n + length (bytes_of is) = omega (arith, p, w, ap length a.held) in
      let r = scans_after n (x ++ y) ((scan (decide F) x).held ++ y) is gs u g e (subst₂ (λ i (t : List ℕ). Scans F i (t ++ y) gs u g) q (sym a.held) b) in
      rw (a.frames, a.skipped) at r

  pub scans_same : (n : ℕ) (x h g : List ℕ) (fs gs : List (Handed K)) (s u : ℕ) → Scans F n x fs s h → Scans F n x gs u g → (fs ≡ gs) × (s ≡ u) × (h ≡ g)
  scans_same n x h g fs gs s u a b = (sym a.frames ∙ b.frames, sym a.skipped ∙ b.skipped, sym a.held ∙ b.held)

  module _ (L : Lawful F) where
    -- ---- one piece

    -- what one piece gives, and what the scanner then knows
    pub record Given (a : List ℕ) (x : Scanner) (p : List ℕ) (fs : List (Handed K)) (s : ℕ) (b : List ℕ) (y : Scanner) : Type 0 where
      pub scans : Scans F (held_from x) (take x.count a ++ p) fs s (take y.count b)
      pub before : length (take x.count a) ≡ x.count
      pub fits : x.count ≤ x.taken
      pub within : y.count < 1029
      pub held : length (take y.count b) ≡ y.count
      pub counts : y.count ≤ y.taken
      pub taken : y.taken ≡ x.taken + length p
      pub mode : y.mode ≡ x.mode
      pub area : length b ≡ 1029

    pub given : {a p b : List ℕ} {x y : Scanner} {s : ℕ} {fs : List (Handed K)} → Offered F a x p fs s b y → Given a x p fs s b y
    given (last {a} {p} {b} {q} {x} {y} {t} {s} o e) =
        let g = is_more F a x p o L t s y b q e in
        let f = (accepts F a x p o (More t s y) b q e).0 in
        let u = feed_is (decide F) (decides F L) p (take x.count a) ∙ ap (λ r. of_fed (decide F) r p) g.gives in
        let v : y.taken ≡ x.taken + length p = sym (ap (λ z. z.taken) g.left) ∙ ap (λ n. x.taken + n) g.keeps.0 in
        let w = simp length-append at (ap length g.keeps.1.bytes) in
        record {
          scans = record { frames = rw u (handed_none (held_from x) g.items g.keeps.1.none); skipped = rw u g.count; held = rw u };
          before = held_count F a x p o f;
          fits = f.held;
          within = g.within;
          held = g.held;
          counts = omega (arith, v, w, held_count F a x p o f, f.held, g.held);
          taken = v;
          mode = sym (ap (λ z. z.mode) g.left);
          area = g.area;
        }
    given (then {a} {p} {b} {q} {c} {x} {y} {z} {t} {s} {l} {i} {u} {k} {fs} o e rest) =
        let g = is_frame F a x p o L l t s i k y b q e in
        let f = (accepts F a x p o (Frame l t s i k y) b q e).0 in
        let r = given rest in
        let is : List (Item W K) = g.items ++ (Framed k (take l q) ∷ []) in
        let v = feed_is (decide F) (decides F L) p (take x.count a) ∙ ap (λ r. of_fed (decide F) r p) g.gives in
        let yt : y.taken ≡ x.taken + t = sym (ap (λ z. z.taken) g.left) in
        let w : bytes_of is ++ take y.count b ≡ take x.count a ++ take t p = simp (bytes_append, append_assoc, append-nil) g.keeps.1.bytes in
        let m = simp (length-append, length-take-le t p g.keeps.0) at (ap length w) in
        let n : held_from y ≡ held_from x + length (bytes_of is) = omega (arith, yt, m, held_count F a x p o f, f.held, g.held) in
        let j = scans_after (held_from x) (take x.count a ++ p) (take y.count b ++ drop t p) is fs u (take z.count c) v (subst (λ n. Scans F n (take y.count b ++ drop t p) fs u (take z.count c)) n r.scans) in
        let one : ◌≡◌ {A = List (Handed K)} (handed (held_from x) is) (handed_out i k l q ∷ []) = handed_one (held_from x) g.items k (take l q) g.keeps.1.none ∙ ap (λ n. handed_out n k l q ∷ []) g.place in
        let sum : skipped_of is ≡ s = skipped_append g.items (Framed k (take l q) ∷ []) ∙ rw g.count (omega arith) in
        record {
          scans = rw (one, sum) at j;
          before = held_count F a x p o f;
          fits = f.held;
          within = r.within;
          held = r.held;
          counts = r.counts;
          taken = r.taken ∙ rw (yt, length-drop) (omega (arith, g.keeps.0));
          mode = r.mode ∙ sym (ap (λ z. z.mode) g.left);
          area = r.area;
        }

    -- FEEDING A AND THEN B is feeding A ++ B: from one scanner with the same bytes held, the frames with their places and kinds, the total skipped, the scanner and the held bytes are the same.
    pub two_as_one : {a b c d e A B : List ℕ} {x y z w : Scanner} {s u v : ℕ} {fs gs hs : List (Handed K)}
        → Offered F a x A fs s b y → Offered F b y B gs u c z → Offered F d x (A ++ B) hs v e w → take x.count d ≡ take x.count a
        → (hs ≡ fs ++ gs) × (v ≡ s + u) × (w ≡ z) × (take w.count e ≡ take z.count c)
    two_as_one {a} {b} {c} {d} {e} {A} {B} {x} {y} {z} {w} {s} {u} {v} {fs} {gs} {hs} p q r same =
        let i = given p in
        let j = given q in
        let k = given r in
        let m : held_from y + length (take y.count b) ≡ held_from x + length (take x.count a ++ A) =
        rw length-append (omega (arith, i.before, i.held, i.taken, i.counts, i.fits)) in
        let h = scans_join L (held_from x) (held_from y) (take x.count a ++ A) B (take y.count b) (take z.count c) fs gs s u i.scans j.scans m in
        let t = scans_same (held_from x) (take x.count a ++ (A ++ B)) (take w.count e) (take z.count c) hs (fs ++ gs) v (s + u) (rw same at k.scans) (rw append_assoc at h) in
        let count : w.count ≡ z.count = sym k.held ∙ ap length t.2 ∙ j.held in
        let taken : w.taken ≡ z.taken = omega (arith, k.taken, j.taken, i.taken, length-append A B) in
        (t.0, t.1, same_scanner count taken (k.mode ∙ sym (j.mode ∙ i.mode)), t.2)

    -- ---- piece after piece

    record Gives (a : List ℕ) (x : Scanner) (ps : List (List ℕ)) (fs : List (Handed K)) (s : ℕ) (b : List ℕ) (y : Scanner) : Type 0 where
      scans : Scans F (held_from x) (take x.count a ++ flatten ps) fs s (take y.count b)
      count : length (take y.count b) ≡ y.count
      taken : y.taken ≡ x.taken + length (flatten ps)
      mode : y.mode ≡ x.mode

    gives : {a b : List ℕ} {x y : Scanner} {s : ℕ} {ps : List (List ℕ)} {fs : List (Handed K)} → Offers F a x ps fs s b y
        → scan (decide F) (take x.count a) ≡ holding (take x.count a) → length (take x.count a) ≡ x.count → Gives a x ps fs s b y
    unfolding flatten
    gives (end {a} {x}) w l =
        record { scans = rw (append-nil (take x.count a)) (record { frames = rw w; skipped = rw w; held = rw w }); count = l; taken = omega arith; mode = refl }
    gives (piece {a} {b} {c} {p} {x} {y} {z} {ps} {fs} {gs} {s} {u} g gs') w l =
        let i = given g in
        let h : scan (decide F) (take y.count b) ≡ holding (take y.count b) = rw i.scans.held at (held_waits (decide F) (take x.count a ++ p)) in
        let j = gives gs' h i.held in
        let m : held_from y + length (take y.count b) ≡ held_from x + length (take x.count a ++ p) =
        rw length-append (omega (arith, i.before, i.held, i.taken, i.counts, i.fits)) in
        let r = scans_join L (held_from x) (held_from y) (take x.count a ++ p) (flatten ps) (take y.count b) (take z.count c) fs gs s u i.scans j.scans m in
        record {
          scans = rw append_assoc at r;
          count = j.count;
          taken = j.taken ∙ rw (i.taken, length-append) (omega arith);
          mode = j.mode ∙ i.mode;
        }

    -- THE DEMAND, of the calls as they are made. From a fresh scanner (whatever the area holds), pieces that are each offered until More hand out the frames of the whole-stream scan of the pieces joined, each with its kind and its place in the joined stream, skip as many bytes, and hold the same, which the scanner counts.
    pub demand : {a b : List ℕ} {mode s : ℕ} {y : Scanner} {ps : List (List ℕ)} {fs : List (Handed K)} → Offers F a (fresh mode) ps fs s b y
        → Scans F 0 (flatten ps) fs s (take y.count b) × (length (take y.count b) ≡ y.count) × (y.taken ≡ length (flatten ps)) × (y.mode ≡ mode)
    demand x = let y = gives x refl refl in (y.scans, y.count, y.taken ∙ omega arith, y.mode)

    -- so the cut does not matter
    pub any_cut : {a b c e : List ℕ} {mode s u : ℕ} {y z : Scanner} {ps qs : List (List ℕ)} {fs gs : List (Handed K)}
        → Offers F a (fresh mode) ps fs s b y → Offers F c (fresh mode) qs gs u e z → flatten ps ≡ flatten qs
        → (fs ≡ gs) × (s ≡ u) × (y ≡ z) × (take y.count b ≡ take z.count e)
    any_cut {a} {b} {c} {e} {mode} {s} {u} {y} {z} {ps} {qs} {fs} {gs} x w same =
        let i = demand x in
        let j = demand w in
        let t = scans_same 0 (flatten qs) (take y.count b) (take z.count e) fs gs s u (rw same at i.0) j.0 in
        let count : y.count ≡ z.count = sym i.1 ∙ ap length t.2 ∙ j.1 in
        (t.0, t.1, same_scanner count (i.2 ∙ ap length same ∙ sym j.2) (i.3 ∙ sym j.3), t.2)

    -- ---- such a run exists

    abbrev pub Ends : List ℕ → Scanner → List ℕ → Type 0
    Ends a x p = (fs : List (Handed K)) × (s : ℕ) × (b : List ℕ) × (y : Scanner) × Offered F a x p fs s b y

    frame_first : {a p b q : List ℕ} {x y : Scanner} {t s l i : ℕ} {k : K} (o : List ℕ) → feed_of F a x p o ≡ outcome (Accepted (Frame l t s i k y)) (b, q) → Ends b y (drop t p) → Ends a x p
    frame_first {a} {p} {b} {q} {x} {y} {t} {s} {l} {i} {k} o e z = (handed_out i k l q ∷ z.0, s + z.1, z.2, z.3, then o e z.4)

    ends_within : (n : ℕ) (o : List ℕ) (a : List ℕ) (x : Scanner) (p : List ℕ) → Fits a x p o → length (scan (decide F) (take x.count a ++ p)).items < n → Ends a x p
    ends_within zero o a x p f l = absurd (not-suc-le-zero l)
    ends_within (suc n) o a x p f l =
        go (feed (decide F) (take x.count a) p) refl (kept (decide F) p (take x.count a)) (stays_within F a x p o L f) (λ b y q g j. ends_within n o b y q g j)
      where
        go : (G : Fed W K) → feed (decide F) (take x.count a) p ≡ G → Kept (take x.count a) p G → HeldWithin 1029 G
            → ((b : List ℕ) (y : Scanner) (q : List ℕ) → Fits b y q o → length (scan (decide F) (take y.count b ++ q)).items < n → Ends b y q) → Ends a x p
        go (fed.More t is g) e c w ih = ([], length is, onto g a, onwards x t (length g), last o (accepted F a x p o f ∙ ap (λ G. called G x a o) e))
        go (fed.Frame t is k y g) e c w ih =
            let lg : length g ≤ 1029 = omega (arith, simp length-append at w) in
            let tg : take (length g) (onto g a) ≡ g = take-append_seam g (drop (length g) a) in
            let u = feed_is (decide F) (decides F L) p (take x.count a) ∙ ap (λ G. of_fed (decide F) G p) e in
            let m = simp (length-append, length-take-le t p c.0) at (ap length c.1.bytes) in
            let fits : Fits (onto g a) (onwards x t (length g)) (drop t p) o =
            record {
              area = area_stays a g f.area lg;
              count = lg;
              held = omega (arith, m, held_count F a x p o f, f.held);
              taken = omega (arith, f.limit, c.0);
              mode = f.mode;
              piece = rw length-drop (omega (arith, f.piece));
              limit = rw length-drop (omega (arith, f.limit, c.0));
              output = f.output;
            } in
            let less : length (scan (decide F) (take (length g) (onto g a) ++ drop t p)).items < n = rw tg (omega (arith, simp length-append at (ap (λ s. length s.items) u))) in
            frame_first o (accepted F a x p o f ∙ ap (λ G. called G x a o) e) (ih (onto g a) (onwards x t (length g)) (drop t p) fits less)

    -- EACH PIECE that a call accepts can be offered until More, here with the same output lent to each call.
    pub ends : (a : List ℕ) (x : Scanner) (p o : List ℕ) → Fits a x p o → Ends a x p
    ends a x p o f = ends_within (suc (length (scan (decide F) (take x.count a ++ p)).items)) o a x p f (omega arith)

    -- what a scanner may be fed to, whatever the piece
    pub record Feedable (a : List ℕ) (x : Scanner) : Type 0 where
      pub area : length a ≡ 1029
      pub count : x.count ≤ 1029
      pub held : x.count ≤ x.taken
      pub mode : x.mode ≤ 1

    -- ANY LIST OF PIECES that calls take can be offered, each until More, if the stream stays within 2^48 bytes.
    pub offers : (o : List ℕ) → 1029 ≤ length o → (ps : List (List ℕ)) → Pieces ps → (a : List ℕ) (x : Scanner) → Feedable a x → x.taken + length (flatten ps) ≤ 2 ^ 48
        → (fs : List (Handed K)) × (s : ℕ) × (b : List ℕ) × (y : Scanner) × Offers F a x ps fs s b y
    unfolding flatten
    offers o big [] none a x f l = ([], 0, a, x, end)
    offers o big (p ∷ ps) (one q r) a x f l =
        let n = length-append p (flatten ps) in
        let w = ends a x p o record { area = f.area; count = f.count; held = f.held; taken = omega (arith, l); mode = f.mode; piece = q; limit = omega (arith, l, n); output = big } in
        let g = given w.4 in
        let y = offers o big ps r w.2 w.3 (record { area = g.area; count = omega (arith, g.within); held = g.counts; mode = rw g.mode f.mode }) (omega (arith, l, n, g.taken)) in
        (_, _, y.2, y.3, piece w.4 y.4)
