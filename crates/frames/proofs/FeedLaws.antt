-- A call gives the first frame of the whole-stream scan of the held bytes and the piece, and More exactly if there is none. Assumes nothing.
use mathlib.Core.Path.{◌≡◌, refl, sym, ap, ◌∙◌, subst}
use mathlib.Core.List.{List, [], ◌∷◌, ◌++◌, append_assoc, append-nil}
use Prim.Native.Nat.{ℕ, zero, suc, ◌≤◌}
use native.Mathlib.Nat.{not-suc-le-zero}
use lib.ListN.{length, take, drop}
use lib.Seq.{take-append-le, drop-append-le, append_snoc}
use Rattle.frames.specs.Scan.{Decision, Take, Item, Skipped, Framed, Scanned, holding, after, scan_past, scan, frames_of}
use Rattle.frames.specs.Feed.{Next, Held, Found, skipping, next, Fed, More, Frame, past, feed}
use Rattle.frames.proofs.FramingLaws.{Whole, Decides}
use Rattle.frames.proofs.ItemLaws.{frames_append}
use Rattle.frames.proofs.FeedInduction.{along_next, along_feed}
use Rattle.frames.proofs.KeptLaws.{Kept, kept}

module _ {W K : Type 0} (d : List ℕ → Decision W K) where
  -- the whole-stream scan that begins as r says, where the bytes p follow
  abbrev pub of_next : Next W K → List ℕ → Scanned W K
  of_next (Held is h) p = after is (scan d (h ++ p))
  of_next (Found is k f h) p = after (is ++ (Framed k f ∷ [])) (scan d (h ++ p))

  -- the same of what a call gives on the piece p
  abbrev pub of_fed : Fed W K → List ℕ → Scanned W K
  of_fed (More t is h) p = record { items = is; held = h }
  of_fed (Frame t is k f h) p = after (is ++ (Framed k f ∷ [])) (scan d (h ++ drop t p))

  -- the scan that begins as r says, with nothing behind
  abbrev pub begins : Next W K → Scanned W K
  begins (Held is h) = record { items = is; held = h }
  begins (Found is k f h) = after (is ++ (Framed k f ∷ [])) (scan d h)

  past_drop : (m : ℕ) (s : List ℕ) → scan_past d m s ≡ scan d (drop m s)
  past_drop zero s = refl
  past_drop (suc m) [] = refl
  past_drop (suc m) (x ∷ xs) = past_drop m xs

  of_skipping : (w : W) (x : ℕ) (r : Next W K) (p : List ℕ) → of_next (skipping (Skipped w x) r) p ≡ after (Skipped w x ∷ []) (of_next r p)
  of_skipping w x (Held is h) p = refl
  of_skipping w x (Found is k f h) p = refl

  of_past : (is : List (Item W K)) (r : Fed W K) (x : ℕ) (p : List ℕ) → after is (of_fed r p) ≡ of_fed (past is r) (x ∷ p)
  of_past is (More t js h) x p = refl
  of_past is (Frame t js k f h) x p = simp append_assoc

  begins_skipping : (w : W) (x : ℕ) (r : Next W K) → after (Skipped w x ∷ []) (begins r) ≡ begins (skipping (Skipped w x) r)
  begins_skipping w x (Held is h) = refl
  begins_skipping w x (Found is k f h) = refl

  module _ (whole : Whole d) where
    pub begins_found : (k : K) (n x : ℕ) (xs : List ℕ) → d (x ∷ xs) ≡ Take k n → scan d (x ∷ xs) ≡ after (Framed k (take n (x ∷ xs)) ∷ []) (scan d (drop n (x ∷ xs)))
    begins_found k zero x xs e = absurd (not-suc-le-zero (whole (x ∷ xs) k 0 e).0)
    begins_found k (suc n) x xs e = rw e (ap (after (Framed k (take (suc n) (x ∷ xs)) ∷ [])) (past_drop n xs))

    -- THE SCAN begins as the search for its first frame says.
    pub scan_next : (h : List ℕ) → scan d h ≡ begins (next d h)
    scan_next h =
        along_next d (λ h r. scan d h ≡ begins r)
        refl
        (λ w x xs r e ih. rw e (ap (after (Skipped w x ∷ [])) ih ∙ begins_skipping w x r))
        (λ k n x xs e. begins_found k n x xs e)
        (λ x xs e. rw e)
        h

  -- what is held waits
  abbrev Waits : Next W K → Type 0
  Waits (Held is h) = scan d h ≡ holding h
  Waits (Found is k f h) = Unit {0}

  waits_skipping : (i : Item W K) (r : Next W K) → Waits r → Waits (skipping i r)
  waits_skipping i (Held is h) e = e
  waits_skipping i (Found is k f h) e = tt

  waits : (h : List ℕ) → Waits (next d h)
  waits h = along_next d (λ h r. Waits r) refl (λ w x xs r e ih. waits_skipping (Skipped w x) r ih) (λ k n x xs e. tt) (λ x xs e. rw e) h

  -- the frames of the whole-stream scan: none, or the one handed out and then those that are to come
  abbrev pub First : List ℕ → List ℕ → Fed W K → Type 0
  First h p (More t is g) = frames_of (scan d (h ++ p)).items ≡ []
  First h p (Frame t is k f g) = frames_of (scan d (h ++ p)).items ≡ f ∷ frames_of (scan d (g ++ drop t p)).items

  module _ (D : Decides d) where
    found_is : (p : List ℕ) (k : K) (n x : ℕ) (xs : List ℕ) → (1 ≤ n) × (n ≤ length (x ∷ xs)) → d (x ∷ (xs ++ p)) ≡ Take k n
        → scan d (x ∷ (xs ++ p)) ≡ after (Framed k (take n (x ∷ xs)) ∷ []) (scan d (drop n (x ∷ xs) ++ p))
    found_is p k zero x xs l e = absurd (not-suc-le-zero l.0)
    found_is p k (suc n) x xs l e =
        rw (e, take-append-le (suc n) (x ∷ xs) p l.1)
        (ap (after (Framed k (take (suc n) (x ∷ xs)) ∷ [])) (past_drop n (xs ++ p) ∙ ap (scan d) (drop-append-le (suc n) (x ∷ xs) p l.1)))

    next_is : (h p : List ℕ) → scan d (h ++ p) ≡ of_next (next d h) p
    next_is h p =
        along_next d (λ h r. scan d (h ++ p) ≡ of_next r p)
        refl
        (λ w x xs r e ih. rw (D.skips (x ∷ xs) p w e, of_skipping w x r p) (ap (after (Skipped w x ∷ [])) ih))
        (λ k n x xs e. found_is p k n x xs (D.whole (x ∷ xs) k n e) (D.takes (x ∷ xs) p k n e))
        (λ x xs e. refl)
        h

    nothing_behind : (is : List (Item W K)) (g : List ℕ) → Waits (Held is g) → of_next (Held is g) [] ≡ of_fed (More 0 is g) []
    nothing_behind is g e = rw (append-nil g, e, append-nil is)

    -- ONE CALL begins as the whole-stream scan of the held bytes and the piece does, and that goes on in what is then held and not taken.
    pub feed_is : (p h : List ℕ) → scan d (h ++ p) ≡ of_fed (feed d h p) p
    feed_is p h =
        along_feed d (λ h p r. scan d (h ++ p) ≡ of_fed r p)
        (λ h g is e. next_is h [] ∙ rw e (nothing_behind is g (subst Waits e (waits h))))
        (λ h p f g is k e. next_is h p ∙ rw e)
        (λ h g is x p r e ih. next_is h (x ∷ p) ∙ rw e (ap (after is) (ap (scan d) (sym (append_snoc g x p)) ∙ ih) ∙ of_past is r x p))
        p h

    first_of : (h p : List ℕ) (r : Fed W K) → scan d (h ++ p) ≡ of_fed r p → Kept h p r → First h p r
    first_of h p (More t is g) e k = rw e k.1.none
    first_of h p (Frame t is x f g) e k = rw e (simp (frames_append, k.1.none))

    pub first_frame : (h p : List ℕ) → First h p (feed d h p)
    first_frame h p = first_of h p (feed d h p) (feed_is p h) (kept d p h)

  -- ---- a call that hands out a frame looks at no byte that it does not take

  abbrev pub Local : List ℕ → List ℕ → Fed W K → Type 0
  Local h p (More t is g) = Unit {0}
  Local h p (Frame t is k f g) = (q : List ℕ) → feed d h (take t p ++ q) ≡ Frame t is k f g

  found_any : (h q : List ℕ) (is : List (Item W K)) (k : K) (f g : List ℕ) → next d h ≡ Found is k f g → feed d h q ≡ Frame 0 is k f g
  found_any h [] is k f g e = rw e
  found_any h (y ∷ q) is k f g e = rw e

  local_past : (h g : List ℕ) (is : List (Item W K)) (x : ℕ) (p : List ℕ) (r : Fed W K) → next d h ≡ Held is g → Local (g ++ (x ∷ [])) p r → Local h (x ∷ p) (past is r)
  local_past h g is x p (More t js z) e l = tt
  local_past h g is x p (Frame t js k f z) e l = λ q. rw e (ap (past is) (l q))

  pub local : (p h : List ℕ) → Local h p (feed d h p)
  local p h = along_feed d Local (λ h g is e. tt) (λ h p f g is k e q. found_any h q is k f g e) local_past p h
