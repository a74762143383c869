-- Over any accepted calls from fresh: what was taken is in frames, skipped or held, as the whole-stream scan has it. Assumes nothing.
use mathlib.Core.Path.{◌≡◌, refl, sym, ap, ◌∙◌, subst}
use mathlib.Core.List.{List, [], ◌∷◌, ◌++◌, append_assoc, append-nil}
use Prim.Native.Nat.{ℕ, ◌+◌, ◌≤◌}
use native.Mathlib.Omega.{arith}
use lib.ListN.{length, take, length-append}
use lib.Seq.{drop_at, length-take-le, take_all}
use Rattle.frames.specs.Scan.{Item, Framed, Handed, after, scan, bytes_of, handed, skipped_of, framed}
use Rattle.frames.specs.Framing.{Framing, decide, Lawful}
use Rattle.frames.specs.Feed as fed
use Rattle.frames.specs.Call.{Scanner, held_from}
use Rattle.frames.specs.Offered.{handed_out, Calls, fresh, more, frame}
use Rattle.frames.proofs.FramingLaws.{decides}
use Rattle.frames.proofs.ItemLaws.{bytes_append, handed_append, handed_none, handed_one, skipped_append, length_items}
use Rattle.frames.proofs.JoinLaws.{join}
use Rattle.frames.proofs.FeedLaws.{feed_is, of_fed, Local, local}
use Rattle.frames.proofs.AnswerLaws.{IsMore, is_more, IsFrame, is_frame}

module _ {W K : Type 0} (F : Framing W K) where
  -- The items that went by: their frames and their skipped bytes are those told; with the held bytes behind they are what was taken; and the whole-stream scan, whatever is taken later, begins with them and goes on in the held bytes. The scanner has counted what was taken.
  pub record Taken (s : List ℕ) (fs : List (Handed K)) (n : ℕ) (a : List ℕ) (x : Scanner) : Type 0 where
    pub items : List (Item W K)
    pub frames : handed 0 items ≡ fs
    pub skipped : skipped_of items ≡ n
    pub bytes : bytes_of items ++ take x.count a ≡ s
    pub onward : (q : List ℕ) → scan (decide F) (s ++ q) ≡ after items (scan (decide F) (take x.count a ++ q))
    pub count : length (take x.count a) ≡ x.count
    pub within : x.count ≤ 1029
    pub taken : x.taken ≡ length s

  -- the scan of h with c and more behind begins with js and goes on in g
  abbrev Goes : List ℕ → List ℕ → List (Item W K) → List ℕ → Type 0
  Goes h c js g = (q : List ℕ) → scan (decide F) (h ++ (c ++ q)) ≡ after js (scan (decide F) (g ++ q))

  -- the held bytes stand behind the items
  held_behind : {s a : List ℕ} {fs : List (Handed K)} {n : ℕ} {x : Scanner} → (r : Taken s fs n a x) → held_from x ≡ length (bytes_of r.items)
  held_behind r = omega (arith, r.taken, r.count, simp length-append at (ap length r.bytes))

  -- what was taken, and then the bytes c: the items js of the held bytes and c, with what is then held behind
  longer : {s a : List ℕ} {fs : List (Handed K)} {n : ℕ} {x : Scanner} → (r : Taken s fs n a x) → (c : List ℕ) (js : List (Item W K)) (b : List ℕ) (y : Scanner)
      → bytes_of js ++ take y.count b ≡ take x.count a ++ c → Goes (take x.count a) c js (take y.count b) → length (take y.count b) ≡ y.count → y.count ≤ 1029
      → y.taken ≡ x.taken + length c → Taken (s ++ c) (fs ++ handed (held_from x) js) (n + skipped_of js) b y
  longer {s} {a} {fs} {n} {x} r c js b y e f l w t =
      record {
        items = r.items ++ js;
        frames = handed_append 0 r.items js ∙ (λ j. r.frames j ++ handed (place j) js);
        skipped = skipped_append r.items js ∙ rw r.skipped;
        bytes = rw (bytes_append r.items js, append_assoc (bytes_of r.items) (bytes_of js) (take y.count b), e, ← append_assoc (bytes_of r.items) (take x.count a) c, r.bytes);
        onward = λ q. ap (scan (decide F)) (append_assoc s c q) ∙ r.onward (c ++ q) ∙ ap (after r.items) (f q) ∙ simp append_assoc;
        count = l;
        within = w;
        taken = rw length-append (omega (arith, t, r.taken));
      }
    where
      place : 0 + length (bytes_of r.items) ≡ held_from x
      place = omega (arith, held_behind r)

  module _ (L : Lawful F) where
    module _ {s a : List ℕ} {fs : List (Handed K)} {n : ℕ} {x : Scanner} (r : Taken s fs n a x) (p b q : List ℕ) (t j : ℕ) (y : Scanner) where
      taken_more : IsMore F a x p t j y b → Taken (s ++ take t p) fs (n + j) b y
      taken_more g =
          let u : scan (decide F) (take x.count a ++ p) ≡ record { items = g.items; held = take y.count b } = feed_is (decide F) (decides F L) p (take x.count a) ∙ ap (λ G. of_fed (decide F) G p) g.gives in
          let f : Goes (take x.count a) p g.items (take y.count b) = λ z. ap (scan (decide F)) (sym (append_assoc (take x.count a) p z)) ∙ join (decide F) (decides F L) (take x.count a ++ p) z ∙ rw u in
          let all : take t p ≡ p = take_all t p (omega (arith, g.keeps.0)) in
          let more : y.taken ≡ x.taken + length p = sym (ap (λ z. z.taken) g.left) ∙ ap (λ n. x.taken + n) g.keeps.0 in
          let w = longer r p g.items b y g.keeps.1.bytes f g.held (omega (arith, g.within)) more in
          rw all (rw (handed_none (held_from x) g.items g.keeps.1.none, g.count, append-nil fs) at w)

      taken_frame : (l i : ℕ) (k : K) → IsFrame F a x p l t j i k y b q → Taken (s ++ take t p) (fs ++ (handed_out i k l q ∷ [])) (n + j) b y
      taken_frame l i k g =
          let is : List (Item W K) = g.items ++ (Framed k (take l q) ∷ []) in
          let near : Local (decide F) (take x.count a) p (fed.Frame t g.items k (take l q) (take y.count b)) = subst (Local (decide F) (take x.count a) p) g.gives (local (decide F) p (take x.count a)) in
          let size : length (take t p) ≡ t = length-take-le t p g.keeps.0 in
          let f : Goes (take x.count a) (take t p) is (take y.count b) = λ z. feed_is (decide F) (decides F L) (take t p ++ z) (take x.count a) ∙ ap (λ G. of_fed (decide F) G (take t p ++ z)) (near z)
          ∙ ap (λ v. after is (scan (decide F) (take y.count b ++ v))) (drop_at (take t p) z t size) in
          let bytes : bytes_of is ++ take y.count b ≡ take x.count a ++ take t p = simp (bytes_append, append_assoc, append-nil) g.keeps.1.bytes in
          let more : y.taken ≡ x.taken + length (take t p) = sym (ap (λ z. z.taken) g.left) ∙ ap (λ n. x.taken + n) (sym size) in
          let w = longer r (take t p) is b y bytes f g.held g.within more in
          let one : ◌≡◌ {A = List (Handed K)} (handed (held_from x) is) (handed_out i k l q ∷ []) = handed_one (held_from x) g.items k (take l q) g.keeps.1.none ∙ ap (λ n. handed_out n k l q ∷ []) g.place in
          let sum : skipped_of is ≡ j = skipped_append g.items (Framed k (take l q) ∷ []) ∙ rw g.count (omega arith) in
          rw (one, sum) at w

    pub taken : {s a : List ℕ} {fs : List (Handed K)} {n : ℕ} {x : Scanner} → Calls F s fs n a x → Taken s fs n a x
    taken (fresh a mode) = record { items = []; frames = refl; skipped = refl; bytes = refl; onward = λ q. refl; count = refl; within = omega arith; taken = refl }
    taken (more {s} {a} {b} {q} {fs} {x} {y} {n} {t} {j} p o r e) = taken_more (taken r) p b q t j y (is_more F a x p o L t j y b q e)
    taken (frame {s} {a} {b} {q} {fs} {x} {y} {n} {l} {t} {j} {i} {k} p o r e) = taken_frame (taken r) p b q t j y l i k (is_frame F a x p o L l t j i k y b q e)

    -- THE SUM. Bytes taken are the bytes in frames, plus skipped, plus held.
    pub sum : {s a : List ℕ} {fs : List (Handed K)} {n : ℕ} {x : Scanner} → Calls F s fs n a x → length s ≡ framed fs + n + x.count
    sum {s} {a} {fs} {n} {x} c =
        let r = taken c in
        let e : framed (handed 0 r.items) ≡ framed fs = ap framed r.frames in
        omega (arith, e, r.skipped, r.count, length_items 0 r.items, simp length-append at (ap length r.bytes))
