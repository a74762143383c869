-- The whole-stream scan, one frame at a time: the next frame is where the search finds it, and call after call gives the scan. Assumes nothing.
use mathlib.Core.Path.{◌≡◌, refl, sym, ap, ap₂, ◌∙◌}
use mathlib.Core.List.{List, [], ◌∷◌, ◌++◌, append_assoc, append-nil, map}
use Prim.Native.Nat.{ℕ, zero, suc, ◌+◌, ◌-◌, ◌≤◌, min}
use native.Mathlib.Nat.{add-zero}
use native.Mathlib.Omega.{arith}
use lib.ListN.{length, take, drop, length-append, length-drop}
use lib.Seq.{take-append-le, take_all, drop-drop, append_snoc, length-take-le}
use Rattle.bits.specs.Told.{Accepted}
use Rattle.frames.specs.Scan.{Decision, Item, Skipped, Framed, after, scan, frames_of, placed}
use Rattle.frames.specs.Framing.{Framing, Lawful, decide}
use Rattle.frames.specs.Feed as fed
use Rattle.frames.specs.Feed.{Next, Held, Found, skipping, next, Fed, past, feed}
use Rattle.frames.specs.Walk as walk
use Rattle.frames.specs.Walk.{Place, place_of, next_from, frames_at, cut, Walked, last, then}
use Rattle.frames.specs.Steps.{searched}
use Rattle.frames.specs.declared.scan.Searched.{Searched}
use Rattle.frames.specs.declared.scan.Searched.TheVariants as variants
use Rattle.frames.proofs.FramingLaws.{Whole, Decides, decides}
use Rattle.frames.proofs.ItemLaws.{frames_append}
use Rattle.frames.proofs.FeedInduction.{along_next, along_feed}
use Rattle.frames.proofs.FeedLaws.{begins, scan_next}
use Rattle.frames.proofs.KeptLaws.{KeptNext, kept_next, bytes_alone, rest_is, front_is, back_is}

-- ---- a search finds the next frame

-- what a search found, in bytes whose first stands at place n
abbrev place_from : ℕ → Searched → Place
place_from n (variants.More i) = walk.Held (n + i)
place_from n (variants.Frame i l t) = walk.Frame (n + i) l

module _ {W K : Type 0} (d : List ℕ → Decision W K) where
  -- the next frame of bytes that begin as r says, where the bytes p follow
  abbrev place_on : ℕ → Next W K → List ℕ → Place
  place_on n (Held is g) p = place_of (n + length is) (next d (g ++ p))
  place_on n (Found is k f g) p = walk.Frame (n + length is) (length f)

  place_skipping : (n : ℕ) (i : Item W K) (r : Next W K) → place_of n (skipping i r) ≡ place_of (n + 1) r
  place_skipping n i (Held is g) = ap walk.Held (omega arith)
  place_skipping n i (Found is k f g) = ap (λ m. walk.Frame m (length f)) (omega arith)

  on_skipping : (n : ℕ) (i : Item W K) (r : Next W K) (p : List ℕ) → place_on (n + 1) r p ≡ place_on n (skipping i r) p
  on_skipping n i (Held is g) p = ap (λ m. place_of m (next d (g ++ p))) (omega arith)
  on_skipping n i (Found is k f g) p = ap (λ m. walk.Frame m (length f)) (omega arith)

  place_past : (n : ℕ) (is : List (Item W K)) (r : Fed W K) → place_from n (searched (past is r)) ≡ place_from (n + length is) (searched r)
  place_past n is (fed.More t js g) = ap walk.Held (omega (arith, length-append is js))
  place_past n is (fed.Frame t js k f g) = ap (λ m. walk.Frame m (length f)) (omega (arith, length-append is js))

  module _ (D : Decides d) where
    place_on_lem : (p h : List ℕ) (n : ℕ) → place_of n (next d (h ++ p)) ≡ place_on n (next d h) p
    place_on_lem p h =
        along_next d (λ h r. (n : ℕ) → place_of n (next d (h ++ p)) ≡ place_on n r p)
        (λ n. ap (λ m. place_of m (next d p)) (sym (add-zero n)))
        (λ w x xs r e ih n. rw (D.skips (x ∷ xs) p w e) (place_skipping n (Skipped w x) (next d (xs ++ p)) ∙ ih (n + 1) ∙ on_skipping n (Skipped w x) r p))
        (λ k m x xs e n. rw (D.takes (x ∷ xs) p k m e) (ap (λ f. walk.Frame (n + 0) (length f)) (take-append-le m (x ∷ xs) p (D.whole (x ∷ xs) k m e).1)))
        (λ x xs e n. ap (λ m. place_of m (next d (x ∷ (xs ++ p)))) (sym (add-zero n)))
        h

    -- a call finds the frame that the bytes held and the piece give first
    place_fed : (p h : List ℕ) (n : ℕ) → place_from n (searched (feed d h p)) ≡ place_of n (next d (h ++ p))
    place_fed p h =
        along_feed d (λ h p r. (n : ℕ) → place_from n (searched r) ≡ place_of n (next d (h ++ p)))
        (λ h g is e n. sym (ap (λ t. place_of n (next d t)) (append-nil h) ∙ ap (place_of n) e))
        (λ h p f g is k e n. sym (place_on_lem p h n ∙ ap (λ r. place_on n r p) e))
        (λ h g is x p r e ih n.
        place_past n is r ∙ ih (n + length is) ∙ ap (λ t. place_of (n + length is) (next d t)) (append_snoc g x p)
        ∙ sym (place_on_lem (x ∷ p) h n ∙ ap (λ r. place_on n r (x ∷ p)) e))
        p h

module _ {W K : Type 0} (F : Framing W K) (s : List ℕ) (from : ℕ) where
  -- at the end and past it
  pub past_end : length s ≤ from → Accepted (walk.Held (length s)) ≡ next_from F s from
  unfolding next_from
  past_end l =
      let e : drop from s ≡ [] = none_left (drop from s) (rw length-drop (omega arith)) in
      let m : min from (length s) ≡ length s = omega arith in
      rw (e, m, add-zero (length s))
    where
      none_left : (l : List ℕ) → length l ≡ 0 → l ≡ []
      none_left [] e = refl
      none_left (x ∷ l) e = absurd (omega arith)

  -- before it, what a search of the bytes from there on tells
  tells : Lawful F → from ≤ length s → (r : Searched) → r ≡ searched (feed (decide F) [] (drop from s)) → Accepted (place_from from r) ≡ next_from F s from
  unfolding next_from
  tells L l r e =
      let m : from ≡ min from (length s) = omega arith in
      ap Accepted
      (ap (place_from from) e ∙ place_fed (decide F) (decides F L) (drop from s) [] from ∙ ap (λ n. place_of n (next (decide F) (drop from s))) m)

-- ---- call after call, the whole-stream scan

module _ {W K : Type 0} where
  -- items without frames only move the places on
  at_behind : (n : ℕ) (is js : List (Item W K)) → frames_of is ≡ [] → frames_at (placed n (is ++ js)) ≡ frames_at (placed (n + length is) js)
  at_behind n [] js e = ap (λ m. frames_at (placed m js)) (sym (add-zero n))
  at_behind n (Skipped w x ∷ is) js e =
      let m : n + 1 + length is ≡ n + suc (length is) = omega arith in
      at_behind (n + 1) is js e ∙ ap (λ m. frames_at (placed m js)) m
  at_behind n (Framed k f ∷ is) js e = let z : ◌≡◌ {A = ℕ} 0 1 = cc in absurd (omega arith)

-- a frame that is found has bytes
abbrev Some : {W K : Type 0} → Next W K → Type 0
Some (Held is g) = Unit {0}
Some (Found is k f g) = 1 ≤ length f

module _ {W K : Type 0} (d : List ℕ → Decision W K) (whole : Whole d) where
  some_skipping : (i : Item W K) (r : Next W K) → Some r → Some (skipping i r)
  some_skipping i (Held is g) e = tt
  some_skipping i (Found is k f g) e = e

  found_some : (t : List ℕ) → Some (next d t)
  found_some t =
      along_next d (λ t r. Some r)
      tt
      (λ w x xs r e ih. some_skipping (Skipped w x) r ih)
      (λ k n x xs e. let w = whole (x ∷ xs) k n e in omega (arith, w.0, length-take-le n (x ∷ xs) w.1))
      (λ x xs e. tt)
      t

module _ {W K : Type 0} (F : Framing W K) (s : List ℕ) where
  -- Held: the scan from there on skips up to place p, and holds what stands from there on.
  pub record Stops (from p : ℕ) : Type 0 where
    pub items : List (Item W K)
    pub none : frames_of items ≡ []
    pub count : from + length items ≡ p
    pub fits : p ≤ length s
    pub gives : scan (decide F) (drop from s) ≡ record { items = items; held = drop p s }

  -- Frame: the scan from there on skips up to place p, hands out the n bytes that stand there, and goes on behind them.
  pub record Finds (from p n : ℕ) : Type 0 where
    pub items : List (Item W K)
    pub kind : K
    pub none : frames_of items ≡ []
    pub count : from + length items ≡ p
    pub some : 1 ≤ n
    pub fits : p + n ≤ length s
    pub gives : scan (decide F) (drop from s) ≡ after (items ++ (Framed kind (cut s (walk.Frame p n)) ∷ [])) (scan (decide F) (drop (p + n) s))

  module _ (L : Lawful F) where
    module _ (from : ℕ) (l : from ≤ length s) where
      least : min from (length s) ≡ from
      least = omega arith

      stops_by : (r : Next W K) → next (decide F) (drop from s) ≡ r → KeptNext (drop from s) r → (p : ℕ) → place_of from r ≡ walk.Held p → Stops from p
      stops_by (Held is g) e k p q =
          let c : from + length is ≡ p = cc in
          let h : g ≡ drop p s = rest_is is g (drop from s) k ∙ drop-drop (length is) from s ∙ ap (λ m. drop m s) c in
          record {
            items = is;
            none = k.none;
            count = c;
            fits = omega (arith, simp length-append at (ap length k.bytes), bytes_alone is k.none, length-drop from s);
            gives = scan_next (decide F) (decides F L).whole (drop from s) ∙ ap (begins (decide F)) e ∙ (λ j. record { items = is; held = h j });
          }
      stops_by (Found is x f g) e k p q = let z : ◌≡◌ {A = ℕ} 0 1 = cc in absurd (omega arith)

      finds_by : (r : Next W K) → next (decide F) (drop from s) ≡ r → KeptNext (drop from s) r → Some r → (p n : ℕ) → place_of from r ≡ walk.Frame p n → Finds from p n
      finds_by (Held is g) e k o p n q = let z : ◌≡◌ {A = ℕ} 0 1 = cc in absurd (omega arith)
      finds_by (Found is x f g) e k o p n q =
          let c : from + length is ≡ p = cc in
          let m : length f ≡ n = cc in
          let u : f ≡ cut s (walk.Frame p n) = front_is is f g (drop from s) k ∙ ap₂ take m (drop-drop (length is) from s ∙ ap (λ i. drop i s) c) in
          let t : from + (length is + length f) ≡ p + n = omega arith in
          let h : g ≡ drop (p + n) s = back_is is f g (drop from s) k ∙ drop-drop (length is + length f) from s ∙ ap (λ i. drop i s) t in
          let b = simp length-append at (ap length k.bytes) in
          record {
            items = is;
            kind = x;
            none = k.none;
            count = c;
            some = omega arith;
            fits = omega (arith, b, bytes_alone is k.none, length-drop from s);
            gives = scan_next (decide F) (decides F L).whole (drop from s) ∙ ap (begins (decide F)) e
                ∙ (λ j. after (is ++ (Framed x (u j) ∷ [])) (scan (decide F) (h j)));
          }

      place_is : (x : Place) → next_from F s from ≡ Accepted x → place_of from (next (decide F) (drop from s)) ≡ x
      unfolding next_from
      place_is x e = let y : place_of (min from (length s)) (next (decide F) (drop from s)) ≡ x = cc in rw least at y

      pub stops : (p : ℕ) → next_from F s from ≡ Accepted (walk.Held p) → Stops from p
      stops p e = stops_by (next (decide F) (drop from s)) refl (kept_next (decide F) (drop from s)) p (place_is (walk.Held p) e)

      pub finds : (p n : ℕ) → next_from F s from ≡ Accepted (walk.Frame p n) → Finds from p n
      finds p n e =
          finds_by (next (decide F) (drop from s)) refl (kept_next (decide F) (drop from s)) (found_some (decide F) (decides F L).whole (drop from s)) p n (place_is (walk.Frame p n) e)

    -- what comes of a walk: the places and the bytes of the frames of the scan from there on, and the bytes that it holds
    pub record Comes (from : ℕ) (fs : List Place) (m : ℕ) : Type 0 where
      pub places : frames_at (placed from (scan (decide F) (drop from s)).items) ≡ fs
      pub frames : frames_of (scan (decide F) (drop from s)).items ≡ map (cut s) fs
      pub held : (scan (decide F) (drop from s)).held ≡ cut s (walk.Held m)

    comes_last : (from p : ℕ) → Stops from p → Comes from [] p
    comes_last from p x =
        record {
          places = ap (λ r. frames_at (placed from r.items)) x.gives ∙ ap (λ is. frames_at (placed from is)) (sym (append-nil x.items)) ∙ at_behind from x.items [] x.none;
          frames = ap (λ r. frames_of r.items) x.gives ∙ x.none;
          held = ap (λ r. r.held) x.gives;
        }

    comes_then : (from p n m : ℕ) (fs : List Place) → Finds from p n → Comes (p + n) fs m → Comes from (walk.Frame p n ∷ fs) m
    comes_then from p n m fs x y =
        let f = cut s (walk.Frame p n) in
        let r = scan (decide F) (drop (p + n) s) in
        let len : length f ≡ n = length-take-le n (drop p s) (rw length-drop (omega (arith, x.fits))) in
        let is = x.items ++ (Framed x.kind f ∷ []) in
        let a : is ++ r.items ≡ x.items ++ (Framed x.kind f ∷ r.items) = append_assoc x.items (Framed x.kind f ∷ []) r.items in
        record {
          places = ap (λ z. frames_at (placed from z.items)) x.gives ∙ ap (λ is. frames_at (placed from is)) a ∙ at_behind from x.items (Framed x.kind f ∷ r.items) x.none
              ∙ ap₂ (λ i l. walk.Frame i l ∷ frames_at (placed (i + l) r.items)) x.count len ∙ ap (λ l. walk.Frame p n ∷ l) y.places;
          frames = ap (λ z. frames_of z.items) x.gives ∙ ap frames_of a ∙ frames_append x.items (Framed x.kind f ∷ r.items)
              ∙ ap (λ l. l ++ (f ∷ frames_of r.items)) x.none ∙ ap (λ l. f ∷ l) y.frames;
          held = ap (λ z. z.held) x.gives ∙ y.held;
        }

    -- A WALK from a place on finds the frames of the scan from there on, and ends where the scan holds.
    pub walked : {from m : ℕ} {fs : List Place} → from ≤ length s → Walked F s from fs m → Comes from fs m
    walked {from} {m} l (last {p = p} e) = comes_last from p (stops from l p e)
    walked {from} {m} l (then {p = p} {n = n} {fs = fs} e w) =
        let x = finds from l p n e in comes_then from p n m fs x (walked x.fits w)

    is_next : (from : ℕ) → next_from F s from ≡ Accepted (place_of (min from (length s)) (next (decide F) (drop from s)))
    unfolding next_from
    is_next from = refl

    abbrev Ends : ℕ → Type 0
    Ends from = (fs : List Place) × (m : ℕ) × Walked F s from fs m

    ends_on : (from : ℕ) → from ≤ length s → ((p n : ℕ) → Finds from p n → Ends (p + n)) → (x : Place) → next_from F s from ≡ Accepted x → Ends from
    ends_on from l onward (walk.Held p) e = ([], p, last e)
    ends_on from l onward (walk.Frame p n) e = let r = onward p n (finds from l p n e) in (walk.Frame p n ∷ r.0, r.1, then e r.2)

    ends_by : (k from : ℕ) → from ≤ length s → length s - from ≤ k → Ends from
    ends_by zero from l u =
        ends_on from l (λ p n x. absurd (omega (arith, x.count, x.some, x.fits))) (place_of (min from (length s)) (next (decide F) (drop from s))) (is_next from)
    ends_by (suc k) from l u =
        ends_on from l (λ p n x. ends_by k (p + n) x.fits (omega (arith, x.count, x.some, x.fits))) (place_of (min from (length s)) (next (decide F) (drop from s))) (is_next from)

    -- Every walk ends.
    pub ends : (from : ℕ) → from ≤ length s → (fs : List Place) × (m : ℕ) × Walked F s from fs m
    ends from l = ends_by (length s) from l (omega arith)

-- ---- the bytes from a place on, as the code has them

module _ {W K : Type 0} (F : Framing W K) (L : Lawful F) (s : List ℕ) (from : ℕ) (l : from ≤ length s) (r : Searched) (e : r ≡ searched (feed (decide F) [] (take (length s - from) (drop from s)))) where
  tells_on : Accepted (place_from from r) ≡ next_from F s from
  tells_on = tells F s from L l r (e ∙ ap (λ t. searched (feed (decide F) [] t)) (take_all (length s - from) (drop from s) (rw length-drop (omega arith))))

  module _ (i : ℕ) (q : r ≡ variants.More i) where
    pub held_on : Accepted (walk.Held (from + i)) ≡ next_from F s from
    held_on = ap (λ x. Accepted (place_from from x)) (sym q) ∙ tells_on

    pub held_reaches : from + i ≤ length s
    held_reaches = (stops F s L from l (from + i) (sym held_on)).fits

  module _ (i n t : ℕ) (q : r ≡ variants.Frame i n t) where
    pub frame_on : Accepted (walk.Frame (from + i) n) ≡ next_from F s from
    frame_on = ap (λ x. Accepted (place_from from x)) (sym q) ∙ tells_on

    pub frame_reaches : from + i + n ≤ length s
    frame_reaches = (finds F s L from l (from + i) n (sym frame_on)).fits
