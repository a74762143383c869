-- A call loses and makes no byte: what it skips, hands out and holds is what was held with what was taken. And what it holds stays within a limit. Assumes nothing.
use mathlib.Core.Path.{◌≡◌, refl, sym, ap, ◌∙◌, subst}
use mathlib.Core.List.{List, [], ◌∷◌, ◌++◌, append_assoc, append-nil}
use Prim.Native.Nat.{ℕ, suc, ◌+◌, ◌≤◌, ◌<◌, suc-le-suc}
use native.Mathlib.Omega.{arith}
use lib.ListN.{length, take, drop, length-append, take-append-drop}
use lib.Seq.{append_snoc, drop_at, take_at, drop-drop}
use Rattle.frames.specs.Scan.{Decision, Wait, Item, Skipped, Framed, bytes_of, frames_of, skipped_of}
use Rattle.frames.specs.Feed.{Next, Held, Found, skipping, next, Fed, More, Frame, past, feed}
use Rattle.frames.proofs.ItemLaws.{bytes_append, frames_append, handed_none, length_items}
use Rattle.frames.proofs.FeedInduction.{along_next, along_feed}

-- the items are no frames, and their bytes with z behind are s
pub record Makes {W K : Type 0} (is : List (Item W K)) (z s : List ℕ) : Type 0 where
  pub bytes : bytes_of is ++ z ≡ s
  pub none : frames_of is ≡ []

module _ {W K : Type 0} where
  -- ---- items without frames

  pub skipped_alone : (is : List (Item W K)) → frames_of is ≡ [] → skipped_of is ≡ length is
  skipped_alone [] e = refl
  skipped_alone (Skipped w x ∷ is) e = ap suc (skipped_alone is e)
  skipped_alone (Framed k f ∷ is) e = let z : ◌≡◌ {A = ℕ} 0 1 = cc in absurd (omega arith)

  pub bytes_alone : (is : List (Item W K)) → frames_of is ≡ [] → length (bytes_of is) ≡ length is
  bytes_alone is e = length_items 0 is ∙ rw (handed_none 0 is e, skipped_alone is e) (omega arith)

  module _ (is : List (Item W K)) where
    -- so counts say contents
    pub rest_is : (z s : List ℕ) → Makes is z s → z ≡ drop (length is) s
    rest_is z s m = sym (drop_at (bytes_of is) z (length is) (bytes_alone is m.none)) ∙ ap (drop (length is)) m.bytes

    pub front_is : (f g s : List ℕ) → Makes is (f ++ g) s → f ≡ take (length f) (drop (length is) s)
    front_is f g s m = sym (take_at f g (length f) refl) ∙ ap (take (length f)) (rest_is (f ++ g) s m)

    pub back_is : (f g s : List ℕ) → Makes is (f ++ g) s → g ≡ drop (length is + length f) s
    back_is f g s m = sym (drop_at f g (length f) refl) ∙ ap (drop (length f)) (rest_is (f ++ g) s m) ∙ drop-drop (length f) (length is) s

  -- ---- no byte is lost or made

  abbrev pub KeptNext : List ℕ → Next W K → Type 0
  KeptNext h (Held is g) = Makes is g h
  KeptNext h (Found is k f g) = Makes is (f ++ g) h

  abbrev pub Kept : List ℕ → List ℕ → Fed W K → Type 0
  Kept h p (More t is g) = (t ≡ length p) × Makes is g (h ++ p)
  Kept h p (Frame t is k f g) = (t ≤ length p) × Makes is (f ++ g) (h ++ take t p)

  makes_skipping : (w : W) (x : ℕ) (is : List (Item W K)) (z s : List ℕ) → Makes is z s → Makes (Skipped w x ∷ is) z (x ∷ s)
  makes_skipping w x is z s m = record { bytes = ap (λ l. x ∷ l) m.bytes; none = m.none }

  kept_skipping : (w : W) (x : ℕ) (h : List ℕ) (r : Next W K) → KeptNext h r → KeptNext (x ∷ h) (skipping (Skipped w x) r)
  kept_skipping w x h (Held is g) m = makes_skipping w x is g h m
  kept_skipping w x h (Found is k f g) m = makes_skipping w x is (f ++ g) h m

  makes_more : (is js : List (Item W K)) (g h z p : List ℕ) → Makes is g h → Makes js z (g ++ p) → Makes (is ++ js) z (h ++ p)
  makes_more is js g h z p a b =
      record {
        bytes = rw bytes_append (append_assoc (bytes_of is) (bytes_of js) z ∙ ap (λ l. bytes_of is ++ l) b.bytes ∙ sym (append_assoc (bytes_of is) g p) ∙ ap (λ l. l ++ p) a.bytes);
        none = frames_append is js ∙ rw (a.none, b.none);
      }

  kept_past : (is : List (Item W K)) (g h : List ℕ) (x : ℕ) (p : List ℕ) (r : Fed W K) → Makes is g h → Kept (g ++ (x ∷ [])) p r → Kept h (x ∷ p) (past is r)
  kept_past is g h x p (More t js z) a b = (ap suc b.0, makes_more is js g h z (x ∷ p) a (rw append_snoc at b.1))
  kept_past is g h x p (Frame t js k f z) a b = (suc-le-suc b.0, makes_more is js g h (f ++ z) (x ∷ take t p) a (rw append_snoc at b.1))

  makes_nil : (is : List (Item W K)) (z s : List ℕ) → Makes is z s → Makes is z (s ++ [])
  makes_nil is z s m = rw append-nil m

  module _ (d : List ℕ → Decision W K) where
    pub kept_next : (h : List ℕ) → KeptNext h (next d h)
    kept_next h =
        along_next d KeptNext
        (record { bytes = refl; none = refl })
        (λ w x xs r e m. kept_skipping w x xs r m)
        (λ k n x xs e. record { bytes = take-append-drop n (x ∷ xs); none = refl })
        (λ x xs e. record { bytes = refl; none = refl })
        h

    next_kept : (h : List ℕ) (r : Next W K) → next d h ≡ r → KeptNext h r
    next_kept h r e = subst (KeptNext h) e (kept_next h)

    pub kept : (p h : List ℕ) → Kept h p (feed d h p)
    kept p h =
        along_feed d Kept
        (λ h g is e. (refl, makes_nil is g h (next_kept h (Held is g) e)))
        (λ h p f g is k e. (omega arith, makes_nil is (f ++ g) h (next_kept h (Found is k f g) e)))
        (λ h g is x p r e k. kept_past is g h x p r (next_kept h (Held is g) e) k)
        p h

  -- ---- what is held, with a frame that is handed out before it, stays within a limit below which all waiting stays

  abbrev pub HeldNext : ℕ → Next W K → Type 0
  HeldNext n (Held is g) = length g < n
  HeldNext n (Found is k f g) = length (f ++ g) ≤ n

  abbrev pub HeldWithin : ℕ → Fed W K → Type 0
  HeldWithin n (More t is g) = length g < n
  HeldWithin n (Frame t is k f g) = length (f ++ g) ≤ n

  within_skipping : (n : ℕ) (i : Item W K) (r : Next W K) → HeldNext n r → HeldNext n (skipping i r)
  within_skipping n i (Held is g) l = l
  within_skipping n i (Found is k f g) l = l

  within_past : (n : ℕ) (is : List (Item W K)) (r : Fed W K) → HeldWithin n r → HeldWithin n (past is r)
  within_past n is (More t js g) l = l
  within_past n is (Frame t js k f g) l = l

  module _ (d : List ℕ → Decision W K) (n : ℕ) (some : 0 < n) (few : (s : List ℕ) → d s ≡ Wait → length s < n) where
    within_next : (h : List ℕ) → length h ≤ n → HeldNext n (next d h)
    within_next h =
        along_next d (λ h r. length h ≤ n → HeldNext n r)
        (λ l. some)
        (λ w x xs r e ih l. within_skipping n (Skipped w x) r (ih (omega arith)))
        (λ k m x xs e l. rw (take-append-drop m (x ∷ xs)) l)
        (λ x xs e l. few (x ∷ xs) e)
        h

    next_within : (h : List ℕ) (r : Next W K) → next d h ≡ r → length h ≤ n → HeldNext n r
    next_within h r e l = subst (HeldNext n) e (within_next h l)

    pub held_within : (p h : List ℕ) → length h ≤ n → HeldWithin n (feed d h p)
    held_within p h =
        along_feed d (λ h p r. length h ≤ n → HeldWithin n r)
        (λ h g is e l. next_within h (Held is g) e l)
        (λ h p f g is k e l. next_within h (Found is k f g) e l)
        (λ h g is x p r e ih l. let u : length g < n = next_within h (Held is g) e l in within_past n is r (ih (rw length-append (omega arith))))
        p h
