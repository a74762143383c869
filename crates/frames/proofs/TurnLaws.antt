-- How a call goes on place by place, over any lawful framing: what a search for its frame needs. Assumes nothing.
use mathlib.Core.Path.{◌≡◌, refl, sym, ap, ◌∙◌, subst, subst₂}
use mathlib.Core.Bool.{Bool, true, false}
use mathlib.Core.List.{List, [], ◌∷◌, ◌++◌, append_assoc, append-nil}
use Prim.Native.Nat.{ℕ, zero, suc, ◌+◌, ◌-◌, ◌≤◌, ◌<◌, max}
use native.Mathlib.Nat.{le_of_suc-le-suc, not-suc-le-zero, add-zero, zero-add, add_assoc}
use native.Mathlib.Numerals.{add-one, one-add}
use native.Mathlib.Omega.{arith}
use lib.ListN.{length, take, drop, get_or, length-append, length-drop, take-append-drop}
use lib.Seq.{drop-append-le, append_snoc, take-add, drop-drop, drop-cons, length-take-le}
use lib.Dec.{leb}
use borrow.Author.Tests.{leb-true}
use Rattle.frames.specs.Scan.{Decision, Skip, Take, Wait, Item, Skipped}
use Rattle.frames.specs.Framing.{Framing, Lawful, decide}
use Rattle.frames.specs.Feed as fed
use Rattle.frames.specs.Feed.{Next, Held, Found, skipping, next, Fed, only, past, or_take, feed}
use Rattle.frames.specs.Steps as steps
use Rattle.frames.specs.Steps.{searched, onward}
use Rattle.frames.specs.declared.scan.Searched.{Searched}
use Rattle.frames.specs.declared.scan.Searched.TheVariants.{More, Frame}
use Rattle.frames.proofs.FramingLaws.{enough, short}

-- m bytes more were taken before
abbrev pub pasts : {W K : Type 0} → ℕ → Fed W K → Fed W K
pasts zero r = r
pasts (suc m) r = past [] (pasts m r)

-- an item was skipped before
abbrev pub skipped : {W K : Type 0} → Item W K → Fed W K → Fed W K
skipped i (fed.More t is h) = fed.More t (i ∷ is) h
skipped i (fed.Frame t is k f h) = fed.Frame t (i ∷ is) k f h

module _ {W K : Type 0} (d : List ℕ → Decision W K) where
  next_waits : (g : List ℕ) → d g ≡ Wait → next d g ≡ Held [] g
  next_waits [] e = refl
  next_waits (x ∷ g) e = rw e

  -- a call that skips a first byte
  pub feed_skip : (x : ℕ) (g q : List ℕ) (w : W) → d (x ∷ g) ≡ Skip w → feed d (x ∷ g) q ≡ skipped (Skipped w x) (feed d g q)
  feed_skip x g [] w e = rw e (go (next d g))
    where
      go : (r : Next W K) → only (skipping (Skipped w x) r) ≡ skipped (Skipped w x) (only r)
      go (Held is h) = refl
      go (Found is k f h) = refl
  feed_skip x g (y ∷ q) w e = rw e (go (next d g) (λ h. feed d (h ++ (y ∷ [])) q))
    where
      more : (is : List (Item W K)) (r : Fed W K) → past (Skipped w x ∷ is) r ≡ skipped (Skipped w x) (past is r)
      more is (fed.More t js h) = refl
      more is (fed.Frame t js k f h) = refl

      go : (r : Next W K) (f : List ℕ → Fed W K) → or_take (skipping (Skipped w x) r) f ≡ skipped (Skipped w x) (or_take r f)
      go (Held is h) f = more is (f h)
      go (Found is k b h) f = refl

  -- a call that finds a frame at the front
  pub feed_take : (x : ℕ) (g q : List ℕ) (k : K) (n : ℕ) → d (x ∷ g) ≡ Take k n → feed d (x ∷ g) q ≡ fed.Frame 0 [] k (take n (x ∷ g)) (drop n (x ∷ g))
  feed_take x g [] k n e = rw e
  feed_take x g (y ∷ q) k n e = rw e

  -- a call that takes m bytes more, while fewer wait
  pub feed_more : (m : ℕ) (q g : List ℕ) → m ≤ length q → ((j : ℕ) → j < m → d (g ++ take j q) ≡ Wait)
      → feed d g q ≡ pasts m (feed d (g ++ take m q) (drop m q))
  feed_more zero q g l H = rw (append-nil g)
  feed_more (suc m) [] g l H = absurd (not-suc-le-zero l)
  feed_more (suc m) (x ∷ q) g l H =
      let e : next d g ≡ Held [] g = next_waits g (ap d (sym (append-nil g)) ∙ H 0 (omega arith)) in
      let ih = feed_more m q (g ++ (x ∷ [])) (le_of_suc-le-suc l) (λ j u. ap d (append_snoc g x (take j q)) ∙ H (suc j) (omega arith)) in
      rw e (ap (past []) (ih ∙ ap (λ s. pasts m (feed d s (drop m q))) (append_snoc g x (take m q))))

  -- a call that takes all, and waits still
  pub feed_all : (q g : List ℕ) → ((j : ℕ) → j < length q → d (g ++ take j q) ≡ Wait) → d (g ++ q) ≡ Wait → feed d g q ≡ fed.More (length q) [] (g ++ q)
  feed_all [] g H e = rw (next_waits g (ap d (sym (append-nil g)) ∙ e), append-nil g)
  feed_all (x ∷ q) g H e =
      let u : next d g ≡ Held [] g = next_waits g (ap d (sym (append-nil g)) ∙ H 0 (omega arith)) in
      let ih = feed_all q (g ++ (x ∷ [])) (λ j u. ap d (append_snoc g x (take j q)) ∙ H (suc j) (omega arith)) (ap d (append_snoc g x q) ∙ e) in
      rw u (ap (past []) (ih ∙ ap (λ s. fed.More (length q) [] s) (append_snoc g x q)))

onward_none : (r : Searched) → onward 0 0 r ≡ r
onward_none (More n) = rw zero-add
onward_none (Frame n l u) = simp zero-add

onward_twice : (i t j u : ℕ) (r : Searched) → onward i t (onward j u r) ≡ onward (i + j) (t + u) r
onward_twice i t j u (More n) = simp add_assoc
onward_twice i t j u (Frame n l v) = simp add_assoc

module _ {W K : Type 0} where
  searched_past : (r : Fed W K) → searched (past [] r) ≡ onward 0 1 (searched r)
  searched_past (fed.More t is h) = simp zero-add
  searched_past (fed.Frame t is k f h) = simp (zero-add, one-add)

  searched_pasts : (m : ℕ) (r : Fed W K) → searched (pasts m r) ≡ onward 0 m (searched r)
  searched_pasts zero r = sym (onward_none (searched r))
  searched_pasts (suc m) r = searched_past (pasts m r) ∙ ap (onward 0 1) (searched_pasts m r) ∙ onward_twice 0 1 0 m (searched r) ∙ ap (λ k. onward 0 k (searched r)) (one-add m)

  searched_skipped : (x : Item W K) (r : Fed W K) → searched (skipped x r) ≡ onward 1 0 (searched r)
  searched_skipped x (fed.More t is h) = simp one-add
  searched_skipped x (fed.Frame t is k f h) = simp (zero-add, one-add)

module _ {W K : Type 0} (F : Framing W K) (h p : List ℕ) where
  abbrev held_at : ℕ → ℕ → List ℕ
  held_at i t = steps.held_at h p i t

  abbrev pub Reached : ℕ → ℕ → Type 0
  Reached i t = steps.Reached F h p i t

  pub reached_start : Reached 0 0
  reached_start = (omega arith, omega arith, rw append-nil (sym (onward_none (searched (feed (decide F) h p)))))

  length_held : (i t : ℕ) → t ≤ length p → length (held_at i t) ≡ length h + t - i
  length_held i t l = rw (length-drop, length-append, length-take-le t p l)

  held_more : (i t m : ℕ) → i ≤ length h + t → t ≤ length p → held_at i t ++ take m (drop t p) ≡ held_at i (t + m)
  held_more i t m l k =
      sym (drop-append-le i (h ++ take t p) (take m (drop t p)) (rw (length-append, length-take-le t p k) l))
      ∙ ap (drop i) (append_assoc h (take t p) (take m (drop t p)) ∙ ap (λ s. h ++ s) (sym (take-add t m p)))

  held_all : (i t : ℕ) → i ≤ length h + t → t ≤ length p → held_at i t ++ drop t p ≡ drop i (h ++ p)
  held_all i t l k =
      sym (drop-append-le i (h ++ take t p) (drop t p) (rw (length-append, length-take-le t p k) l))
      ∙ ap (drop i) (append_assoc h (take t p) (drop t p) ∙ ap (λ s. h ++ s) (take-append-drop t p))

  module _ (L : Lawful F) where
    -- bytes that more of them leave in need of more, wait
    pub short_before : (s t : List ℕ) → length s < F.need (s ++ t) → decide F s ≡ Wait
    short_before s t l = go (leb (F.need s) (length s)) refl
      where
        go : (b : Bool) → leb (F.need s) (length s) ≡ b → decide F s ≡ Wait
        go true e = let v : F.need s ≤ length s = leb-true (F.need s) (length s) e in let u : F.need (s ++ t) ≡ F.need s = L.same_need s t v in absurd (omega arith)
        go false e = rw e

    -- so many bytes as are needed decide what all decide
    enough_before : (s t : List ℕ) → F.need (s ++ t) ≤ length s → decide F s ≡ F.verdict (s ++ t)
    enough_before s t l = let u : F.need s ≤ length s = L.prompt s t l in enough F s u ∙ sym (L.same_verdict s t u)

    module _ (i t : ℕ) (r : Reached i t) where
      -- what is held where j more bytes are taken, in front of the rest
      held_split : (j : ℕ) → j ≤ length p - t → held_at i (t + j) ++ drop (t + j) p ≡ drop i (h ++ p)
      held_split j l = held_all i (t + j) (omega (arith, r.0)) (omega (arith, r.1))

      need_split : (j : ℕ) → j ≤ length p - t → F.need (held_at i t ++ take j (drop t p) ++ drop (t + j) p) ≡ F.need (drop i (h ++ p))
      need_split j l = ap F.need (ap (λ s. s ++ drop (t + j) p) (held_more i t j r.0 r.1) ∙ held_split j l)

      waits_below : (j : ℕ) → j ≤ length p - t → length h + (t + j) < i + F.need (drop i (h ++ p)) → decide F (held_at i t ++ take j (drop t p)) ≡ Wait
      waits_below j l k =
          short_before (held_at i t ++ take j (drop t p)) (drop (t + j) p)
          (rw (need_split j l, held_more i t j r.0 r.1, length_held i (t + j) (omega (arith, r.1))) (omega (arith, r.0)))

      -- too few bytes: the call takes all, and answers More
      pub turn_short : length h + length p < i + F.need (drop i (h ++ p)) → More i ≡ searched (feed (decide F) h p)
      turn_short k =
          let e : length (drop t p) ≡ length p - t = length-drop t p in
          let f = feed_all (decide F) (drop t p) (held_at i t) (λ j u. waits_below j (omega arith) (omega (arith, r.1)))
          (ap (decide F) (held_all i t r.0 r.1) ∙ short F (drop i (h ++ p)) (rw (length-drop, length-append) (omega arith))) in
          sym (r.2 ∙ ap (λ s. onward i t (searched s)) f ∙ ap More (add-zero i))

      -- enough: the call takes so many as are needed, and they decide
      pub turn_more : (n u : ℕ) → n ≡ F.need (drop i (h ++ p)) → i + n ≤ length h + length p → u ≡ max t (i + n - length h) →
          (Reached i u) × (decide F (held_at i u) ≡ F.verdict (drop i (h ++ p))) × (n ≤ length (held_at i u))
      turn_more n u e l v =
          let m = u - t in
          let w : t + (u - t) ≡ u = omega arith in
          let k : length (drop t p) ≡ length p - t = length-drop t p in
          let f = feed_more (decide F) (u - t) (drop t p) (held_at i t) (omega (arith, r.1)) (λ j y. waits_below j (omega (arith, r.1)) (omega arith)) in
          let g : searched (feed (decide F) h p) ≡ onward i u (searched (feed (decide F) (held_at i u) (drop u p))) =
          r.2 ∙ ap (λ s. onward i t (searched s)) f ∙ ap (onward i t) (searched_pasts (u - t) (feed (decide F) (held_at i t ++ take (u - t) (drop t p)) (drop (u - t) (drop t p))))
          ∙ rw (held_more i t (u - t) r.0 r.1, drop-drop (u - t) t p, w) (onward_twice i t 0 (u - t) (searched (feed (decide F) (held_at i u) (drop u p))) ∙ rw (add-zero i, w)) in
          let z : length (held_at i u) ≡ length h + u - i = length_held i u (omega (arith, r.1)) in
          let q : held_at i u ++ drop u p ≡ drop i (h ++ p) = held_all i u (omega (arith, r.0)) (omega (arith, r.1)) in
          let y : F.need (held_at i u ++ drop u p) ≤ length (held_at i u) = rw (q, ← e, z) (omega arith) in
          ((omega (arith, r.0), omega (arith, r.1), g), enough_before (held_at i u) (drop u p) y ∙ ap F.verdict q, omega arith)

      abbrev Turns : ℕ → ℕ → Type 0
      Turns n u = (n ≡ F.need (drop i (h ++ p))) × (i + n ≤ length h + length p) × (u ≡ max t (i + n - length h))

      -- the byte at the place is skipped
      pub turn_skip : (n u : ℕ) (w : W) → Turns n u → F.verdict (drop i (h ++ p)) ≡ Skip w → Reached (i + 1) u
      turn_skip n u w a e =
          let b = turn_more n u a.0 a.1 a.2 in
          let o : 1 ≤ F.need (drop i (h ++ p)) = L.needs (drop i (h ++ p)) in
          let k : length (held_at i u) ≡ length (h ++ take u p) - i = length-drop i (h ++ take u p) in
          let l : i < length (h ++ take u p) = omega (arith, a.0, b.2) in
          let c : held_at i u ≡ get_or (h ++ take u p) i 0 ∷ held_at (suc i) u = drop-cons (h ++ take u p) i 0 l in
          let f = feed_skip (decide F) (get_or (h ++ take u p) i 0) (held_at (suc i) u) (drop u p) w (ap (decide F) (sym c) ∙ b.1 ∙ e) in
          let v : length (held_at i u) ≡ length h + u - i = length_held i u b.0.1 in (
            omega (arith, a.0, b.2),
            b.0.1,
            b.0.2 ∙ ap (λ s. onward i u (searched (feed (decide F) s (drop u p)))) c ∙ ap (λ s. onward i u (searched s)) f
                ∙ ap (onward i u) (searched_skipped (Skipped w (get_or (h ++ take u p) i 0)) (feed (decide F) (held_at (suc i) u) (drop u p)))
                ∙ onward_twice i u 1 0 (searched (feed (decide F) (held_at (suc i) u) (drop u p))) ∙ rw (add-zero u, add-one i),
          )

      -- the frame at the place is handed out
      pub turn_take : (n u : ℕ) (k : K) → Turns n u → F.verdict (drop i (h ++ p)) ≡ Take k n → Frame i n u ≡ searched (feed (decide F) h p)
      turn_take n u x a e =
          let b = turn_more n u a.0 a.1 a.2 in
          let o : 1 ≤ F.need (drop i (h ++ p)) = L.needs (drop i (h ++ p)) in
          let k : length (held_at i u) ≡ length (h ++ take u p) - i = length-drop i (h ++ take u p) in
          let l : i < length (h ++ take u p) = omega (arith, a.0, b.2) in
          let c : held_at i u ≡ get_or (h ++ take u p) i 0 ∷ held_at (suc i) u = drop-cons (h ++ take u p) i 0 l in
          let f = feed_take (decide F) (get_or (h ++ take u p) i 0) (held_at (suc i) u) (drop u p) x n (ap (decide F) (sym c) ∙ b.1 ∙ e) in
          let z : length (take n (get_or (h ++ take u p) i 0 ∷ held_at (suc i) u)) ≡ n = length-take-le n _ (omega (arith, ap length c, b.2)) in
          sym (b.0.2 ∙ ap (λ s. onward i u (searched (feed (decide F) s (drop u p)))) c ∙ ap (λ s. onward i u (searched s)) f ∙ rw (z, add-zero i, add-zero u))

    -- a run of bytes, each of which is decided by itself and skipped
    pub turn_run : (i t : ℕ) → Reached i t → (k : ℕ) → i + k ≤ length h + length p
        → ((j : ℕ) → i ≤ j → j < i + k → (F.need (drop j (h ++ p)) ≡ 1) × ((w : W) × (F.verdict (drop j (h ++ p)) ≡ Skip w)))
        → Reached (i + k) (max t (i + k - length h))
    turn_run i t r zero l H =
        let e : i ≡ i + 0 = omega arith in
        let f : t ≡ max t (i + 0 - length h) = omega (arith, r.0) in
        subst₂ (λ x y. Reached x y) e f r
    turn_run i t r (suc k) l H =
        let v = turn_run i t r k (omega arith) (λ j a b. H j a (omega arith)) in
        let x = H (i + k) (omega arith) (omega arith) in
        let y = turn_skip (i + k) (max t (i + k - length h)) v 1 (max t (i + suc k - length h)) x.1.0 (sym x.0, omega arith, omega arith) x.1.1 in
        let e : i + k + 1 ≡ i + suc k = omega arith in
        subst (λ z. Reached z (max t (i + suc k - length h))) e y
