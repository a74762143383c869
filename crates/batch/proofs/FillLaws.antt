-- What is filled in for the frames that are listed, the copies in the seam and the kinds; and that a listing with it is the walk. Assumes nothing.
use mathlib.Core.Path.{◌≡◌, refl, sym, ap, ap₂, ◌∙◌, subst, subst₂}
use mathlib.Core.Bool.{Bool, true, false, cond}
use mathlib.Core.List.{List, [], ◌∷◌, ◌++◌}
use Prim.Native.Nat.{ℕ, suc, ◌+◌, ◌-◌, ◌≤◌, ◌<◌, min}
use native.Mathlib.Numerals.{add-one}
use native.Mathlib.Omega.{arith}
use lib.ListN.{length, get_or, take, drop, set, length-append, length-drop, length-set, length-map}
use lib.Seq.{drop-cons, drop-drop, take_at, take_all, length-take-le, sets, sets-eq}
use lib.Dec.{leb, ltb}
use borrow.Author.Tests.{leb-true, leb-false}
use Rattle.bits.specs.Onto.{onto, over}
use Rattle.bits.proofs.OntoLaws.{over_zero}
use Rattle.frames.specs.Scan.{Decision, Skip, Take, Wait, Item, Skipped, Framed, Scanned, holding, step, scan_past, scan, bytes_of, handed}
use Rattle.frames.specs.Framing.{decide}
use Rattle.frames.specs.Rtcm.{Why, Kind}
use Rattle.frames.specs.Modes.{framing_of}
use Rattle.frames.specs.Listing.{Found, first_of, starts_of, lengths_of, listing, looked_at, list_of}
use Rattle.frames.specs.declared.list.Listing.{Listing}
use Rattle.frames.proofs.FramingLaws.{decides}
use Rattle.frames.proofs.ItemLaws.{bytes_append, length_items}
use Rattle.frames.proofs.JoinLaws.{every_byte, held_waits}
use Rattle.frames.proofs.ModeLaws.{lawful, waits_short}
use Rattle.frames.proofs.StandLaws.{Stands, stands}
use Rattle.batch.specs.Batch.{kinds_of, seam_with, seam_of}
use Rattle.batch.specs.Steps.{kind_number_at, kinds_at, seam_at, Parts, Lists, lists, Fit, Fill, Within, Walks}
use Rattle.batch.proofs.KindLaws.{kind_at_lem, not_longer}
use Rattle.batch.proofs.SplitLaws.{Firsts, firsts}

none_left : (k : ℕ) (l : List ℕ) → length l ≤ k → drop k l ≡ []
none_left k l h = go (drop k l) (rw length-drop (omega arith))
  where
    go : (t : List ℕ) → length t ≡ 0 → t ≡ []
    go [] e = refl
    go (x ∷ t) e = absurd (omega arith)

-- ---- the turns

module _ (h n : ℕ) (s starts lengths seam₀ kinds₀ : List ℕ) where
  -- the first k frames are filled in
  pub record Filled (k : ℕ) (seam kinds : List ℕ) : Type 0 where
    pub parts : Parts n (drop k starts) (drop k lengths)
    pub copied : seam_at h s (drop k starts) (drop k lengths) seam ≡ seam_at h s starts lengths seam₀
    pub told : sets kinds k (kinds_at s (drop k starts)) ≡ sets kinds₀ 0 (kinds_at s starts)
    pub area : length seam ≡ length seam₀
    pub room : length kinds ≡ length kinds₀

  pub filled_none : Parts n starts lengths → Filled 0 seam₀ kinds₀
  filled_none q = record { parts = q; copied = refl; told = refl; area = refl; room = refl }

  module _ (k : ℕ) (seam kinds : List ℕ) (f : Filled k seam kinds) where
    module _ (l : k < length starts) (m : length lengths ≡ length starts) where
      next_start : drop k starts ≡ get_or starts k 0 ∷ drop (suc k) starts
      next_start = drop-cons starts k 0 l

      next_length : drop k lengths ≡ get_or lengths k 0 ∷ drop (suc k) lengths
      next_length = drop-cons lengths k 0 (omega arith)

      -- the next of them lies within the bytes
      pub next_part : Parts n (get_or starts k 0 ∷ drop (suc k) starts) (get_or lengths k 0 ∷ drop (suc k) lengths)
      next_part = subst₂ (Parts n) next_start next_length f.parts

      pub fill_turn : (i q v : ℕ) → i ≡ get_or starts k 0 → q ≡ get_or lengths k 0 → v ≡ kind_number_at (get_or s i 0)
          → (seam' : List ℕ) → seam' ≡ cond (ltb i h) (over i (take q (drop i s)) seam) seam → length seam' ≡ length seam → Filled (k + 1) seam' (set kinds k v)
      fill_turn i q v ei eq ev seam' es el =
          record {
            parts = subst (λ q. Parts n (drop q starts) (drop q lengths)) (sym (add-one k)) next_part.3;
            copied = ap (seam_at h s (drop (k + 1) starts) (drop (k + 1) lengths)) (es ∙ ap₂ (λ i q. cond (ltb i h) (over i (take q (drop i s)) seam) seam) ei eq)
                ∙ ap (λ q. seam_at h s (drop q starts) (drop q lengths) (cond (ltb (get_or starts k 0) h) (over (get_or starts k 0) (take (get_or lengths k 0) (drop (get_or starts k 0) s)) seam) seam)) (add-one k)
                ∙ sym (ap₂ (λ a b. seam_at h s a b seam) next_start next_length) ∙ f.copied;
            told = ap (λ v. sets (set kinds k v) (k + 1) (kinds_at s (drop (k + 1) starts))) (ev ∙ ap (λ i. kind_number_at (get_or s i 0)) ei)
                ∙ ap (λ q. sets (set kinds k (kind_number_at (get_or s (get_or starts k 0) 0))) q (kinds_at s (drop q starts))) (add-one k)
                ∙ sym (ap (λ a. sets kinds k (kinds_at s a)) next_start) ∙ f.told;
            area = el ∙ f.area;
            room = length-set kinds k v ∙ f.room;
          }

    -- all are
    pub all_copied : length starts ≤ k → seam ≡ seam_at h s starts lengths seam₀
    all_copied l = sym (ap (λ a. seam_at h s a (drop k lengths) seam) (none_left k starts l)) ∙ f.copied

    pub all_told : length starts ≤ k → length starts ≤ length kinds₀ → kinds ≡ onto (kinds_at s starts) kinds₀
    all_told l r =
        sym (ap (λ a. sets kinds k (kinds_at s a)) (none_left k starts l)) ∙ f.told
        ∙ sets-eq (kinds_at s starts) kinds₀ 0 (omega (arith, length-map starts (λ i. kind_number_at (get_or s i 0)))) ∙ over_zero (kinds_at s starts) kinds₀

-- ---- the frames of a scan by their places and lengths

-- what gives nothing by itself is fewer than 1,029 bytes
holding_short : (mode : ℕ) (t : List ℕ) → scan (decide (framing_of mode)) t ≡ holding t → length t < 1029
holding_short mode [] e = omega arith
holding_short mode (x ∷ xs) e = go (decide (framing_of mode) (x ∷ xs)) refl e
  where
    go : (q : Decision Why Kind) → decide (framing_of mode) (x ∷ xs) ≡ q → step q x xs (λ n. scan_past (decide (framing_of mode)) n xs) ≡ holding (x ∷ xs) → length (x ∷ xs) < 1029
    go (Skip w) u v = let i = ap (λ r. r.items) v in let z : ◌≡◌ {A = ℕ} 0 1 = cc in absurd (omega arith)
    go (Take k n) u v = let i = ap (λ r. r.items) v in let z : ◌≡◌ {A = ℕ} 0 1 = cc in absurd (omega arith)
    go Wait u v = waits_short mode (x ∷ xs) u

module _ (mode : ℕ) where
  abbrev d : List ℕ → Decision Why Kind
  d = decide (framing_of mode)

  stand_first : (t : List ℕ) (is js : List (Item Why Kind)) → Stands d t (is ++ js) → Stands d t is
  stand_first t [] js x = tt
  stand_first t (Skipped w b ∷ is) js x = (x.0, x.1, stand_first (drop 1 t) is js x.2)
  stand_first t (Framed k f ∷ is) js x = (x.0, x.1, stand_first (drop (length f) t) is js x.2)

  module _ (s : List ℕ) where
    behind_skip : (m : ℕ) (is : List (Item Why Kind)) → Stands d (drop 1 (drop m s)) is → Stands d (drop (m + 1) s) is
    behind_skip m is x = subst (λ t. Stands d t is) (drop-drop 1 m s) x

    behind_frame : (m : ℕ) (f : List ℕ) (is : List (Item Why Kind)) → Stands d (drop (length f) (drop m s)) is → Stands d (drop (m + length f) s) is
    behind_frame m f is x = subst (λ t. Stands d t is) (drop-drop (length f) m s) x

    parts_of : (m : ℕ) (is : List (Item Why Kind)) → Stands d (drop m s) is → Parts (length s) (starts_of (handed m is)) (lengths_of (handed m is))
    parts_of m [] x = tt
    parts_of m (Skipped w b ∷ is) x = parts_of (m + 1) is (behind_skip m is x.2)
    parts_of m (Framed k f ∷ is) x =
        let w = (decides (framing_of mode) (lawful mode)).whole (drop m s) k (length f) x.0 in
        (omega (arith, w.0, w.1, length-drop m s), w.0, not_longer (framing_of mode) (lawful mode) (drop m s) k (length f) x.0, parts_of (m + length f) is (behind_frame m f is x.2))

    kinds_of_lem : (m : ℕ) (is : List (Item Why Kind)) → Stands d (drop m s) is → kinds_at s (starts_of (handed m is)) ≡ kinds_of (handed m is)
    kinds_of_lem m [] x = refl
    kinds_of_lem m (Skipped w b ∷ is) x = kinds_of_lem (m + 1) is (behind_skip m is x.2)
    kinds_of_lem m (Framed k f ∷ is) x = ap₂ (λ a b. a ∷ b) (kind_at_lem mode s m k (length f) x.0) (kinds_of_lem (m + length f) is (behind_frame m f is x.2))

    seam_of_lem : (h m : ℕ) (is : List (Item Why Kind)) (seam : List ℕ) → Stands d (drop m s) is → seam_at h s (starts_of (handed m is)) (lengths_of (handed m is)) seam ≡ seam_of h (handed m is) seam
    seam_of_lem h m [] seam x = refl
    seam_of_lem h m (Skipped w b ∷ is) seam x = seam_of_lem h (m + 1) is seam (behind_skip m is x.2)
    seam_of_lem h m (Framed k f ∷ is) seam x =
        ap (λ t. seam_at h s (starts_of (handed (m + length f) is)) (lengths_of (handed (m + length f) is)) (cond (ltb m h) (over m t seam) seam)) x.1
        ∙ seam_of_lem h (m + length f) is (seam_with h (record { place = m; kind = k; bytes = f }) seam) (behind_frame m f is x.2)

  -- ---- a listing, and what is filled in

  module _ (h p : List ℕ) (a : Lists) (fit : Fit (length h) (length p) a) where
    abbrev scanned : Scanned Why Kind
    scanned = scan d (h ++ p)

    abbrev found : Found Kind
    found = first_of (length a.starts) scanned

    all_looked : looked_at h p ≡ h ++ p
    all_looked = ap₂ (λ x y. x ++ y) (take_all 1029 h fit.held) (take_all 65536 p fit.piece)

    pub listed_is : {x : Listing × List ℕ × List ℕ} → x ≡ list_of mode h p a.starts a.lengths
        → x ≡ (listing found, onto (starts_of found.frames) a.starts, onto (lengths_of found.frames) a.lengths)
    listed_is e =
        let m : min (length a.starts) (length a.lengths) ≡ length a.starts = omega (arith, fit.lengths) in
        e ∙ ap₂ (λ n t. let f = first_of n (scan d t) in (listing f, onto (starts_of f.frames) a.starts, onto (lengths_of f.frames) a.lengths)) m all_looked

    found_few : length found.frames ≤ length a.starts
    found_few = go (leb (length a.starts) (length (handed 0 scanned.items))) refl
      where
        go : (b : Bool) → leb (length a.starts) (length (handed 0 scanned.items)) ≡ b → length found.frames ≤ length a.starts
        go true e = rw e (omega (arith, length-take-le (length a.starts) (handed 0 scanned.items) (leb-true (length a.starts) (length (handed 0 scanned.items)) e)))
        go false e = rw e (omega (arith, leb-false (length a.starts) (length (handed 0 scanned.items)) e))

    first : Firsts (length a.starts) scanned
    first = firsts (length a.starts) fit.some scanned

    stand : Stands d (h ++ p) first.front
    stand = stand_first (h ++ p) first.front first.back (subst (λ is. Stands d (h ++ p) is) first.both (stands d (decides (framing_of mode) (lawful mode)).whole (h ++ p)))

    same_frames : handed 0 first.front ≡ found.frames
    same_frames = sym (ap (λ f. f.frames) first.first)

    found_parts : Parts (length h + length p) (starts_of found.frames) (lengths_of found.frames)
    found_parts = subst₂ (λ n fs. Parts n (starts_of fs) (lengths_of fs)) (length-append h p) same_frames (parts_of (h ++ p) 0 first.front stand)

    found_kinds : kinds_at (h ++ p) (starts_of found.frames) ≡ kinds_of found.frames
    found_kinds = subst (λ fs. kinds_at (h ++ p) (starts_of fs) ≡ kinds_of fs) same_frames (kinds_of_lem (h ++ p) 0 first.front stand)

    found_seam : seam_at (length h) (h ++ p) (starts_of found.frames) (lengths_of found.frames) a.seam ≡ seam_of (length h) found.frames a.seam
    found_seam = subst (λ fs. seam_at (length h) (h ++ p) (starts_of fs) (lengths_of fs) a.seam ≡ seam_of (length h) fs a.seam) same_frames (seam_of_lem (h ++ p) (length h) 0 first.front a.seam stand)

    -- every byte is passed or held
    all_bytes : length (bytes_of scanned.items) + length scanned.held ≡ length h + length p
    all_bytes = sym (length-append (bytes_of scanned.items) scanned.held) ∙ ap length (every_byte d (decides (framing_of mode) (lawful mode)).whole (h ++ p)) ∙ length-append h p

    passed : length (bytes_of scanned.items) ≡ length (bytes_of first.front) + length (bytes_of first.back)
    passed = ap (λ is. length (bytes_of is)) first.both ∙ ap length (bytes_append first.front first.back) ∙ length-append (bytes_of first.front) (bytes_of first.back)

    left_fits : (b : Bool) → first.full ≡ b → length h + cond b (length (bytes_of first.front) - length h) (length p) ≤ length (bytes_of first.front) + 1029
    left_fits true e = omega (arith, fit.held)
    left_fits false e =
        let none : length (bytes_of first.back) ≡ 0 = ap (λ is. length (bytes_of is)) (first.all e) in
        omega (arith, all_bytes, passed, none, holding_short mode scanned.held (held_waits d (h ++ p)))

    found_within : Within 1029 (length h) (length p) (listing found)
    found_within =
        subst (λ f. Within 1029 (length h) (length p) (listing f)) (sym first.first)
        (record { inside = omega (arith, all_bytes, passed); counted = omega (arith, length_items 0 first.front); room = left_fits first.full refl })

    -- what the lists then begin with
    module _ (w : Listing) (st ln : List ℕ) (e : ◌≡◌ {A = Listing × List ℕ × List ℕ} (w, st, ln) (listing found, onto (starts_of found.frames) a.starts, onto (lengths_of found.frames) a.lengths)) where
      counts : w.count ≡ length found.frames
      counts = ap (λ x. x.0.count) e

      starts_are : take (w.count - 0) st ≡ starts_of found.frames
      starts_are =
          ap (take (w.count - 0)) (ap (λ x. x.1) e)
          ∙ take_at (starts_of found.frames) (drop (length (starts_of found.frames)) a.starts) (w.count - 0) (length-map found.frames (λ f. f.place) ∙ omega (arith, counts))

      lengths_are : take (w.count - 0) ln ≡ lengths_of found.frames
      lengths_are =
          ap (take (w.count - 0)) (ap (λ x. x.2) e)
          ∙ take_at (lengths_of found.frames) (drop (length (lengths_of found.frames)) a.lengths) (w.count - 0) (length-map found.frames (λ f. length f.bytes) ∙ omega (arith, counts))

      pub counted : (w.count ≤ length st) × (w.count ≤ length ln)
      counted =
          let fs = found.frames in
          let u = ap length (ap (λ x. x.1) e) ∙ length-append (starts_of fs) (drop (length (starts_of fs)) a.starts) in
          let v = ap length (ap (λ x. x.2) e) ∙ length-append (lengths_of fs) (drop (length (lengths_of fs)) a.lengths) in
          (omega (arith, counts, u, length-map fs (λ f. f.place)), omega (arith, counts, v, length-map fs (λ f. length f.bytes)))

      pub fills : Fill (length h) (length p) (take (w.count - 0) st) (take (w.count - 0) ln) a.seam a.kinds
      fills =
          let fs = found.frames in
          let u = ap length starts_are ∙ length-map fs (λ f. f.place) in
          let v = ap length lengths_are ∙ length-map fs (λ f. length f.bytes) in
          record {
            held = fit.held;
            parts = subst₂ (Parts (length h + length p)) (sym starts_are) (sym lengths_are) found_parts;
            same = v ∙ sym u;
            area = fit.seam;
            room = omega (arith, u, found_few, fit.kinds);
          }

      -- A LISTING with what is filled in is the walk.
      pub walks : (seam kinds : List ℕ) → seam ≡ seam_at (length h) (h ++ p) (take (w.count - 0) st) (take (w.count - 0) ln) a.seam
          → kinds ≡ onto (kinds_at (h ++ p) (take (w.count - 0) st)) a.kinds → Walks w found (length h) (length p) a (lists seam st ln kinds)
      walks seam kinds es ek =
          record {
            count = counts;
            stop = ap (λ x. x.0.stop) e;
            framed = ap (λ x. x.0.framed) e;
            full = ap (λ x. x.0.full) e;
            seam = es ∙ ap₂ (λ x y. seam_at (length h) (h ++ p) x y a.seam) starts_are lengths_are ∙ found_seam;
            starts = ap (λ x. x.1) e;
            lengths = ap (λ x. x.2) e;
            kinds = ek ∙ ap (λ x. onto (kinds_at (h ++ p) x) a.kinds) starts_are ∙ ap (λ x. onto x a.kinds) found_kinds;
            within = subst (Within 1029 (length h) (length p)) (sym (ap (λ x. x.0) e)) found_within;
          }
