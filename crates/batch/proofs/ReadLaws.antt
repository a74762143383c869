-- What a caller reads off the areas are the frames: those in the piece where they lie, those that began in the held bytes from the seam. Assumes nothing.
use mathlib.Core.Path.{◌≡◌, refl, sym, ap, ◌∙◌, subst}
use mathlib.Core.Bool.{cond}
use mathlib.Core.List.{List, [], ◌∷◌, ◌++◌, map, append_assoc}
use Prim.Native.Nat.{ℕ, ◌+◌, ◌-◌, ◌≤◌, ◌<◌}
use native.Mathlib.Nat.{add-sub_of_le}
use native.Mathlib.Omega.{arith}
use native.Mathlib.Decide.{dec_lt}
use lib.ListN.{length, take, drop, length-append, length-drop, take-append-drop}
use lib.Seq.{take-append-le, take_at, drop_at, take-add, drop-append-add, drop-drop, length-take-le}
use lib.Dec.{ltb}
use borrow.Author.Tests.{lt-ltb, le-ltb}
use Rattle.bits.specs.Onto.{over}
use Rattle.frames.specs.Scan.{Item, Skipped, Framed, Handed, handed}
use Rattle.frames.specs.Framing.{Framing, Lawful, decide}
use Rattle.frames.specs.Rtcm.{Kind, Rtcm, Ubx}
use Rattle.frames.proofs.StandLaws.{Stands}
use Rattle.frames.specs.Listing.{starts_of, lengths_of}
use Rattle.batch.specs.Batch.{kind_number, kinds_of, seam_with, seam_of}
use Rattle.batch.specs.Repeated.{kind_of, read_all}
use Rattle.batch.proofs.KindLaws.{not_longer}

-- ---- frames of a stream

-- the frames stand in s from place m on, one behind the other, each of at most 1,029 bytes
abbrev pub InOrder : {K : Type 0} → List ℕ → ℕ → List (Handed K) → Type 0
InOrder s m [] = Unit {0}
InOrder s m (f ∷ fs) =
    (m ≤ f.place) × (length f.bytes ≤ 1029) × (take (length f.bytes) (drop f.place s) ≡ f.bytes) × InOrder s (f.place + length f.bytes) fs

module _ {W K : Type 0} (F : Framing W K) (L : Lawful F) (s : List ℕ) where
  earlier : (m n : ℕ) (fs : List (Handed K)) → m ≤ n → InOrder s n fs → InOrder s m fs
  earlier m n [] l x = tt
  earlier m n (f ∷ fs) l x = (omega (arith, x.0), x.1, x.2, x.3)

  pub in_order : (m : ℕ) (is : List (Item W K)) → Stands (decide F) (drop m s) is → InOrder s m (handed m is)
  in_order m [] x = tt
  in_order m (Skipped w b ∷ is) x =
      earlier m (m + 1) (handed (m + 1) is) (omega arith) (in_order (m + 1) is (subst (λ t. Stands (decide F) t is) (drop-drop 1 m s) x.2))
  in_order m (Framed k f ∷ is) x =
      (omega arith, not_longer F L (drop m s) k (length f) x.0, x.1, in_order (m + length f) is (subst (λ t. Stands (decide F) t is) (drop-drop (length f) m s) x.2))

-- the same frames with their places counted from i
abbrev pub moved : {K : Type 0} → ℕ → Handed K → Handed K
moved i f = record { place = i + f.place; kind = f.kind; bytes = f.bytes }

pub handed_moved : {W K : Type 0} (i m : ℕ) (is : List (Item W K)) → map (moved i) (handed m is) ≡ handed (i + m) is
handed_moved i m [] = refl
handed_moved i m (Skipped w x ∷ is) = let e : i + (m + 1) ≡ i + m + 1 = omega arith in handed_moved i (m + 1) is ∙ ap (λ n. handed n is) e
handed_moved i m (Framed k f ∷ is) =
    let e : i + (m + length f) ≡ i + m + length f = omega arith in
    ap (λ l. record { place = i + m; kind = k; bytes = f } ∷ l) (handed_moved i (m + length f) is ∙ ap (λ n. handed n is) e)

-- ---- the seam

over_length : (i : ℕ) (xs d : List ℕ) → i + length xs ≤ length d → length (over i xs d) ≡ length d
over_length i xs d l =
    let u = length-append (take i d ++ xs) (drop (i + length xs) d) in
    let v = length-append (take i d) xs in
    omega (arith, u, v, length-take-le i d (omega arith), length-drop (i + length xs) d)

-- what stands before it stays
over_front : (i q : ℕ) (xs d : List ℕ) → q ≤ i → i ≤ length d → take q (over i xs d) ≡ take q d
over_front i q xs d l k =
    let n : q ≤ length (take i d) = omega (arith, length-take-le i d k) in
    ap (take q) (append_assoc (take i d) xs (drop (i + length xs) d))
    ∙ take-append-le q (take i d) (xs ++ drop (i + length xs) d) n
    ∙ sym (ap (take q) (sym (take-append-drop i d)) ∙ take-append-le q (take i d) (drop i d) n)

-- and it stands in its place
over_here : (i : ℕ) (xs d : List ℕ) → i ≤ length d → take (length xs) (drop i (over i xs d)) ≡ xs
over_here i xs d k =
    ap (λ t. take (length xs) (drop i t)) (append_assoc (take i d) xs (drop (i + length xs) d))
    ∙ ap (take (length xs)) (drop_at (take i d) (xs ++ drop (i + length xs) d) i (length-take-le i d k))
    ∙ take_at xs (drop (i + length xs) d) (length xs) refl

-- lists that begin alike have like parts
same_part : (a b : ℕ) (s t : List ℕ) → take (a + b) s ≡ take (a + b) t → a ≤ length s → a ≤ length t → take b (drop a s) ≡ take b (drop a t)
same_part a b s t e l k =
    sym (drop_at (take a s) (take b (drop a s)) a (length-take-le a s l))
    ∙ ap (drop a) (sym (take-add a b s) ∙ e ∙ take-add a b t)
    ∙ drop_at (take a t) (take b (drop a t)) a (length-take-le a t k)

module _ {K : Type 0} (h : ℕ) (few : h ≤ 1029) where
  with_length : (f : Handed K) (s : List ℕ) → length f.bytes ≤ 1029 → length s ≡ 2058 → length (seam_with h f s) ≡ 2058
  with_length f s l e = go (dec_lt f.place h)
    where
      go : Dec (f.place < h) → length (seam_with h f s) ≡ 2058
      go (yes q) = rw (lt-ltb f.place h q) (over_length f.place f.bytes s (omega arith) ∙ e)
      go (no q) = rw (le-ltb f.place h (omega arith)) e

  with_front : (f : Handed K) (s : List ℕ) (q : ℕ) → length s ≡ 2058 → q ≤ f.place → take q (seam_with h f s) ≡ take q s
  with_front f s q e l = go (dec_lt f.place h)
    where
      go : Dec (f.place < h) → take q (seam_with h f s) ≡ take q s
      go (yes u) = rw (lt-ltb f.place h u) (over_front f.place q f.bytes s l (omega arith))
      go (no u) = rw (le-ltb f.place h (omega arith))

  seam_length : (t : List ℕ) (m : ℕ) (fs : List (Handed K)) (s : List ℕ) → length s ≡ 2058 → InOrder t m fs → length (seam_of h fs s) ≡ 2058
  seam_length t m [] s e x = e
  seam_length t m (f ∷ fs) s e x = seam_length t (f.place + length f.bytes) fs (seam_with h f s) (with_length f s x.1 e) x.3

  -- frames from place m on leave what stands before it
  stays : (t : List ℕ) (m q : ℕ) (fs : List (Handed K)) (s : List ℕ) → length s ≡ 2058 → q ≤ m → InOrder t m fs → take q (seam_of h fs s) ≡ take q s
  stays t m q [] s e l x = refl
  stays t m q (f ∷ fs) s e l x =
      stays t (f.place + length f.bytes) q fs (seam_with h f s) (with_length f s x.1 e) (omega (arith, x.0)) x.3
      ∙ with_front f s q e (omega (arith, x.0))

-- ---- reading

kind_again : (k : Kind) → kind_of (kind_number k) ≡ k
kind_again Rtcm = refl
kind_again Ubx = refl

module _ (i : ℕ) (h p : List ℕ) (few : length h ≤ 1029) where
  -- the bytes of a frame, before the frames fs
  bytes_read : (f : Handed Kind) (fs : List (Handed Kind)) (m : ℕ) (s : List ℕ) → length s ≡ 2058 → InOrder (h ++ p) m (f ∷ fs)
      → cond (ltb f.place (length h)) (take (length f.bytes) (drop f.place (seam_of (length h) (f ∷ fs) s))) (take (length f.bytes) (drop (f.place - length h) p)) ≡ f.bytes
  bytes_read f fs m s e x = go (dec_lt f.place (length h))
    where
      go : Dec (f.place < length h)
          → cond (ltb f.place (length h)) (take (length f.bytes) (drop f.place (seam_of (length h) (f ∷ fs) s))) (take (length f.bytes) (drop (f.place - length h) p)) ≡ f.bytes
      go (yes q) =
          let w : seam_with (length h) f s ≡ over f.place f.bytes s = rw (lt-ltb f.place (length h) q) in
          let u = seam_length (length h) few (h ++ p) m (f ∷ fs) s e x in
          let v = with_length (length h) few f s x.1 e in
          ap (λ b. cond b (take (length f.bytes) (drop f.place (seam_of (length h) (f ∷ fs) s))) (take (length f.bytes) (drop (f.place - length h) p))) (lt-ltb f.place (length h) q)
          ∙ (same_part f.place (length f.bytes) (seam_of (length h) fs (seam_with (length h) f s)) (seam_with (length h) f s)
          (stays (length h) few (h ++ p) (f.place + length f.bytes) (f.place + length f.bytes) fs (seam_with (length h) f s) v (omega arith) x.3) (omega arith) (omega arith)
          ∙ ap (λ t. take (length f.bytes) (drop f.place t)) w ∙ over_here f.place f.bytes s (omega arith))
      go (no q) =
          let l : length h ≤ f.place = omega arith in
          let w : drop (f.place - length h) p ≡ drop f.place (h ++ p) = sym (drop-append-add h p (f.place - length h)) ∙ ap (λ k. drop k (h ++ p)) (add-sub_of_le l) in
          ap (λ b. cond b (take (length f.bytes) (drop f.place (seam_of (length h) (f ∷ fs) s))) (take (length f.bytes) (drop (f.place - length h) p))) (le-ltb f.place (length h) l)
          ∙ ap (take (length f.bytes)) w ∙ x.2

  -- WHAT IS READ OFF the lists, the seam and the piece are the frames.
  pub read_back : (fs : List (Handed Kind)) (m : ℕ) (s : List ℕ) → length s ≡ 2058 → InOrder (h ++ p) m fs
      → read_all i (length h) p (seam_of (length h) fs s) (starts_of fs) (lengths_of fs) (kinds_of fs) ≡ map (moved i) fs
  read_back [] m s e x = refl
  read_back (f ∷ fs) m s e x =
      let b = bytes_read f fs m s e x in
      let r = read_back fs (f.place + length f.bytes) (seam_with (length h) f s) (with_length (length h) few f s x.1 e) x.3 in
      λ j. record { place = i + f.place; kind = kind_again f.kind j; bytes = b j } ∷ r j
