-- The turns of a listing, from one start byte to the next over any lawful framing; and that it comes to the first frames of the scan. Assumes nothing.
use mathlib.Core.Path.{◌≡◌, refl, sym, ap, ap₂, ◌∙◌, subst}
use mathlib.Core.Bool.{Bool, true, false, cond}
use mathlib.Core.List.{List, [], ◌∷◌, ◌++◌}
use Prim.Native.Nat.{ℕ, zero, suc, ◌+◌, ◌-◌, ◌≤◌, ◌<◌, min}
use native.Mathlib.Nat.{add-zero, zero-add, sub-zero, add-sub_of_le}
use native.Mathlib.Numerals.{add-one}
use native.Mathlib.Omega.{arith}
use native.Mathlib.Decide.{dec_lt}
use lib.ListN.{length, get_or, take, drop, set, length-append, length-drop, length-set, length-map}
use lib.Seq.{drop-cons, drop-drop, drop-append-add, length-take-le, take_all, sets, sets-eq}
use lib.Dec.{leb, leb-zero, leb-suc-zero, leb-suc-suc}
use Rattle.bits.specs.Onto.{onto}
use Rattle.bits.proofs.OntoLaws.{over_zero}
use Rattle.frames.specs.Scan.{Decision, Skip, Take, Wait, Item, Skipped, Framed, Scanned, Handed, scan, bytes_of, handed, framed}
use Rattle.frames.specs.Framing.{Framing, Lawful, decide}
use Rattle.frames.specs.Frame.{Whole, check}
use Rattle.frames.specs.Rtcm.{rtcm}
use Rattle.frames.specs.Modes.{framing_of}
use Rattle.std.specs.Prelude.{Result, Ok}
use Rattle.bits.specs.declared.refusal.Refusal.{Refusal}
use Rattle.frames.specs.Answers.{known_frame, told_checked}
use Rattle.frames.specs.Steps.{Start, candidate}
use Rattle.frames.specs.Listing.{Found, behind, first_of, starts_of, lengths_of, listing, looked_at, list_of}
use Rattle.frames.specs.ListSteps.{listed, list_on, Within}
use Rattle.frames.specs.declared.list.Listing.{Listing}
use Rattle.frames.specs.declared.scan.Candidate.TheVariants.{Incomplete, NotValid, Good}
use Rattle.frames.specs.declared.frame.Frame as code
use Rattle.frames.proofs.FramingLaws as framing
use Rattle.frames.proofs.FramingLaws.{enough, short, decides}
use Rattle.frames.proofs.FeedLaws.{begins_found}
use Rattle.frames.proofs.CandidateLaws.{good, Says, says, first_is}
use Rattle.frames.proofs.StartLaws.{Starts}
use Rattle.frames.proofs.FrameLaws.{good_tells}
use Rattle.frames.proofs.UbxCandidateLaws.{only_rtcm, at_d3_lem}

-- ---- the items of a scan from a place on

module _ {W K : Type 0} (d : List ℕ → Decision W K) where
  skip_first : (x : ℕ) (xs : List ℕ) (w : W) → d (x ∷ xs) ≡ Skip w → (scan d (x ∷ xs)).items ≡ Skipped w x ∷ (scan d xs).items
  skip_first x xs w e = rw e

  waits_none : (t : List ℕ) → d t ≡ Wait → (scan d t).items ≡ []
  waits_none [] e = refl
  waits_none (x ∷ xs) e = rw e

  take_first : framing.Whole d → (t : List ℕ) (k : K) (n : ℕ) → d t ≡ Take k n → (scan d t).items ≡ Framed k (take n t) ∷ (scan d (drop n t)).items
  take_first whole [] k n e = let w = whole [] k n e in absurd (omega (arith, w.0, w.1))
  take_first whole (x ∷ xs) k n e = ap (λ r. r.items) (begins_found d whole k n x xs e)

  module _ (s : List ℕ) (i : ℕ) where
    skip_at : i < length s → (w : W) → d (drop i s) ≡ Skip w → (scan d (drop i s)).items ≡ Skipped w (get_or s i 0) ∷ (scan d (drop (i + 1) s)).items
    skip_at l w e =
        let c : drop i s ≡ get_or s i 0 ∷ drop (suc i) s = drop-cons s i 0 l in
        ap (λ t. (scan d t).items) c ∙ skip_first (get_or s i 0) (drop (suc i) s) w (ap d (sym c) ∙ e)
        ∙ ap (λ n. Skipped w (get_or s i 0) ∷ (scan d (drop n s)).items) (sym (add-one i))

    take_at : framing.Whole d → (k : K) (n : ℕ) → d (drop i s) ≡ Take k n → (scan d (drop i s)).items ≡ Framed k (take n (drop i s)) ∷ (scan d (drop (i + n) s)).items
    take_at whole k n e = take_first whole (drop i s) k n e ∙ ap (λ t. Framed k (take n (drop i s)) ∷ (scan d t).items) (drop-drop n i s)

-- ---- the turns

pub tells : {r x : Listing} {st ln : List ℕ} {goal : Listing × List ℕ × List ℕ} → r ≡ x → (x, st, ln) ≡ goal → (r, st, ln) ≡ goal
tells {r} {x} {st} {ln} e g = ap (λ z. (z, st, ln)) e ∙ g

pub stops_at : {r : Listing} {k i m : ℕ} {f : Bool} → r ≡ listed k i m f → r.stop ≡ i
stops_at e = ap (λ (z : Listing). z.stop) e

-- a listing so far by its numbers
pub reached_so : (n room : ℕ) {r : Listing} {k i m : ℕ} {f : Bool} → r ≡ listed k i m f → i ≤ n → m ≤ i → k ≤ m → k ≤ room → Within n room r
reached_so n room e a b c d = subst (Within n room) (sym e) (record { inside = a; counted = b; each = c; most = d })

module _ {W K : Type 0} (F : Framing W K) (s : List ℕ) (room : ℕ) where
  -- what is left to list, with k frames listed and m bytes in them, from place i on
  abbrev left : (k i m : ℕ) → List ℕ → List ℕ → Listing × List ℕ × List ℕ
  left k i m st ln = list_on (room - k) k i m (scan (decide F) (drop i s)).items st ln

  pub came_first : (st ln : List ℕ) → left 0 0 0 st ln ≡ list_on room 0 0 0 (scan (decide F) s).items st ln
  came_first st ln = ap (λ n. list_on n 0 0 0 (scan (decide F) s).items st ln) (sub-zero room)

  -- the same by the numbers of a listing
  pub by_numbers : {k i m : ℕ} {f : Bool} {goal : Listing × List ℕ × List ℕ} (st ln : List ℕ) {x : Listing} → x ≡ listed k i m f → left k i m st ln ≡ goal → left x.count x.stop x.framed st ln ≡ goal
  by_numbers st ln e g = ap (λ (z : Listing). left z.count z.stop z.framed st ln) e ∙ g

  -- it goes on from a listing by its numbers
  pub goes_on : (st ln : List ℕ) {k i m : ℕ} {f : Bool} {x : Listing} {y : Listing × List ℕ × List ℕ} → x ≡ listed k i m f
      → y ≡ list_on (room - x.count) x.count x.stop x.framed (scan (decide F) (drop x.stop s)).items st ln → y ≡ left k i m st ln
  goes_on st ln e q = q ∙ ap (λ (z : Listing). left z.count z.stop z.framed st ln) e

module _ {W K : Type 0} (F : Framing W K) (L : Lawful F) (start : ℕ → Bool) (S : Starts F start) (s : List ℕ) (room : ℕ) where
  module _ (k m : ℕ) (st ln : List ℕ) (l : k < room) where
    free : room - k ≡ suc (room - (k + 1))
    free = omega arith

    skip_turn : (i : ℕ) → i < length s → (w : W) → decide F (drop i s) ≡ Skip w → left F s room k i m st ln ≡ left F s room k (i + 1) m st ln
    skip_turn i h w e =
        ap₂ (λ n is. list_on n k i m is st ln) free (skip_at (decide F) s i h w e)
        ∙ ap (λ n. list_on n k (i + 1) m (scan (decide F) (drop (i + 1) s)).items st ln) (sym free)

    -- a byte that is no start is skipped
    alone : (i : ℕ) → i < length s → start (get_or s i 0) ≡ false → left F s room k i m st ln ≡ left F s room k (i + 1) m st ln
    alone i h e =
        let f = ap start (first_is s i) ∙ e in
        let v = S.skips (drop i s) f in
        let n : F.need (drop i s) ≤ length (drop i s) = rw (S.alone (drop i s) f, length-drop) (omega arith) in
        skip_turn i h v.0 (enough F (drop i s) n ∙ v.1)

    run : (c i : ℕ) → i + c ≤ length s → ((q : ℕ) → i ≤ q → q < i + c → start (get_or s q 0) ≡ false) → left F s room k i m st ln ≡ left F s room k (i + c) m st ln
    run zero i h H = ap (λ q. left F s room k q m st ln) (sym (add-zero i))
    run (suc c) i h H =
        let e : i + 1 + c ≡ i + suc c = omega arith in
        alone i (omega arith) (H i (omega arith) (omega arith)) ∙ run c (i + 1) (omega arith) (λ q a b. H q (omega arith) (omega arith)) ∙ ap (λ q. left F s room k q m st ln) e

    skip_run : (c i : ℕ) → i + c ≤ length s → ((q : ℕ) → i ≤ q → q < i + c → (w : W) × (decide F (drop q s) ≡ Skip w)) → left F s room k i m st ln ≡ left F s room k (i + c) m st ln
    skip_run zero i h H = ap (λ q. left F s room k q m st ln) (sym (add-zero i))
    skip_run (suc c) i h H =
        let e : i + 1 + c ≡ i + suc c = omega arith in
        let v = H i (omega arith) (omega arith) in
        skip_turn i (omega arith) v.0 v.1 ∙ skip_run c (i + 1) (omega arith) (λ q a b. H q (omega arith) (omega arith)) ∙ ap (λ q. left F s room k q m st ln) e

    to_start : (i j : ℕ) → Start start s i j → left F s room k i m st ln ≡ left F s room k j m st ln
    to_start i j x =
        let e : i + (j - i) ≡ j = omega (arith, x.from) in
        run (j - i) i (omega (arith, x.within)) (λ q a b. x.none q (omega arith) a) ∙ ap (λ q. left F s room k q m st ln) e

    take_turn : (j n : ℕ) (y : K) → decide F (drop j s) ≡ Take y n → left F s room k j m st ln ≡ left F s room (k + 1) (j + n) (m + n) (set st k j) (set ln k n)
    take_turn j n y e =
        let w = (decides F L).whole (drop j s) y n e in
        let z : length (take n (drop j s)) ≡ n = length-take-le n (drop j s) w.1 in
        ap₂ (λ r is. list_on r k j m is st ln) free (take_at (decide F) s j (decides F L).whole y n e)
        ∙ ap (λ c. list_on (room - (k + 1)) (k + 1) (j + c) (m + c) (scan (decide F) (drop (j + n) s)).items (set st k j) (set ln k c)) z

    -- nothing is given any more
    last_turn : (j : ℕ) → (scan (decide F) (drop j s)).items ≡ [] → left F s room k j m st ln ≡ (listed k j m false, st, ln)
    last_turn j e = ap₂ (λ n is. list_on n k j m is st ln) free e

  module _ (goal : Listing × List ℕ × List ℕ) (a b : ℕ) where
    -- A listing has come to place i with k frames in lists of a and b places, and leads to the goal.
    pub record Came (k i m : ℕ) (st ln : List ℕ) : Type 0 where
      pub leads : left F s room k i m st ln ≡ goal
      pub inside : i ≤ length s
      pub counted : m ≤ i
      pub each : k ≤ m
      pub most : k ≤ room
      pub starts : length st ≡ a
      pub lengths : length ln ≡ b

    module _ (k i m : ℕ) (st ln : List ℕ) (c : Came k i m st ln) where
      -- the lists are full
      pub ends_full : room ≤ k → (listed k i m true, st, ln) ≡ goal
      ends_full l =
          let e : room - k ≡ 0 = omega arith in
          sym (ap (λ n. list_on n k i m (scan (decide F) (drop i s)).items st ln) e) ∙ c.leads

      -- the next start byte
      pub at_start : k < room → (j : ℕ) → Start start s i j → Came k j m st ln
      at_start l j x =
          record {
            leads = sym (to_start k m st ln l i j x) ∙ c.leads;
            inside = x.within;
            counted = omega (arith, c.counted, x.from);
            each = c.each;
            most = c.most;
            starts = c.starts;
            lengths = c.lengths;
          }

      -- bytes that are skipped
      pub skips_on : k < room → (j : ℕ) → i ≤ j → j ≤ length s → ((q : ℕ) → i ≤ q → q < j → (w : W) × (decide F (drop q s) ≡ Skip w)) → Came k j m st ln
      skips_on l j x y H =
          let e : i + (j - i) ≡ j = omega arith in
          record {
            leads = sym (skip_run k m st ln l (j - i) i (omega arith) (λ q a b. H q a (omega arith)) ∙ ap (λ q. left F s room k q m st ln) e) ∙ c.leads;
            inside = y;
            counted = omega (arith, c.counted);
            each = c.each;
            most = c.most;
            starts = c.starts;
            lengths = c.lengths;
          }

      module _ (l : k < room) where
        -- no byte is left
        pub ends_all : length s ≤ i → (listed k i m false, st, ln) ≡ goal
        ends_all h =
            let e : drop i s ≡ [] = none_left (drop i s) (rw length-drop (omega arith)) in
            sym (last_turn k m st ln l i (ap (λ t. (scan (decide F) t).items) e)) ∙ c.leads
          where
            none_left : (t : List ℕ) → length t ≡ 0 → t ≡ []
            none_left [] e = refl
            none_left (x ∷ t) e = absurd (omega arith)

        -- what is left waits
        pub ends_short : Incomplete ≡ candidate F (drop i s) → (listed k i m false, st, ln) ≡ goal
        ends_short q =
            let w : Says F (drop i s) Incomplete = says F L (drop i s) Incomplete q in
            sym (last_turn k m st ln l i (waits_none (decide F) (drop i s) (short F (drop i s) w))) ∙ c.leads

        module _ (n : ℕ) where
          module _ (q : NotValid n ≡ candidate F (drop i s)) where
            not_valid : Says F (drop i s) (NotValid n)
            not_valid = says F L (drop i s) (NotValid n) q

            pub failed_few : n ≤ 1029
            failed_few = omega (arith, not_valid.0, L.most (drop i s))

            -- the start byte is skipped
            pub passes : Came k (i + 1) m st ln
            passes =
                let w = not_valid in
                let h : i < length s = omega (arith, w.0, w.1, L.needs (drop i s), length-drop i s) in
                record {
                  leads = sym (skip_turn k m st ln l i h w.2 (enough F (drop i s) w.1 ∙ w.3)) ∙ c.leads;
                  inside = omega arith;
                  counted = omega (arith, c.counted);
                  each = c.each;
                  most = c.most;
                  starts = c.starts;
                  lengths = c.lengths;
                }

          module _ (q : Good n ≡ candidate F (drop i s)) where
            is_good : Says F (drop i s) (Good n)
            is_good = says F L (drop i s) (Good n) q

            pub good_few : n ≤ 1029
            good_few = omega (arith, is_good.0, L.most (drop i s))

            pub good_some : 1 ≤ n
            good_some = omega (arith, is_good.0, L.needs (drop i s))

            pub good_inside : i + n ≤ length s
            good_inside = let w = is_good in omega (arith, w.0, w.1, length-drop i s, good_some)

            -- the frame is listed, and the listing goes on behind it
            pub lists : Came (k + 1) (i + n) (m + n) (set st k i) (set ln k n)
            lists =
                let w = is_good in
                record {
                  leads = sym (take_turn k m st ln l i n w.2 (enough F (drop i s) w.1 ∙ w.3)) ∙ c.leads;
                  inside = good_inside;
                  counted = omega (arith, c.counted);
                  each = omega (arith, c.each, good_some);
                  most = omega arith;
                  starts = length-set st k i ∙ c.starts;
                  lengths = length-set ln k n ∙ c.lengths;
                }

-- ---- a frame that stands in the piece

-- at D3 the check of RTCM decides in every mode
rtcm_here : (mode : ℕ) (t : List ℕ) → get_or t 0 0 ≡ 0xD3 → candidate rtcm t ≡ candidate (framing_of mode) t
rtcm_here mode t e = go (dec_lt 0 mode)
  where
    go : Dec (0 < mode) → candidate rtcm t ≡ candidate (framing_of mode) t
    go (yes q) = at_d3_lem mode t (λ z. omega arith) (λ z. omega arith)
    go (no q) = only_rtcm mode t (omega arith)

pub stands_here : (mode : ℕ) (h p : List ℕ) (i : ℕ) → length h ≤ i → i ≤ length h + length p → (r : Result code.Frame Refusal) → told_checked r ≡ check (take (length p - (i - length h)) (drop (i - length h) p))
    → (f : code.Frame) → r ≡ Ok f → Good f.length ≡ candidate (framing_of mode) (drop i (h ++ p))
stands_here mode h p i l u r e f q =
    let t : take (length p - (i - length h)) (drop (i - length h) p) ≡ drop i (h ++ p) =
    take_all (length p - (i - length h)) (drop (i - length h) p) (rw length-drop (omega arith)) ∙ sym (drop-append-add h p (i - length h)) ∙ ap (λ k. drop k (h ++ p)) (add-sub_of_le l) in
    let g = good_tells (drop i (h ++ p)) (known_frame f) (ap check (sym t) ∙ sym e ∙ ap told_checked q) in
    ap (λ (v : Whole). Good v.length) g.whole ∙ good (drop i (h ++ p)) g.start g.fits g.sums ∙ rtcm_here mode (drop i (h ++ p)) g.start

-- ---- what it comes to

-- the first frames by the number of all frames
module _ {K : Type 0} where
  abbrev counted : ℕ → ℕ → List (Handed K) → ℕ → Bool → Found K
  counted i n hs e b = cond b (record { frames = take n hs; stop = behind i (take n hs); full = true }) (record { frames = hs; stop = e; full = false })

  past_skip : (i n : ℕ) (hs : List (Handed K)) (e : ℕ) → counted i (suc n) hs e (leb (suc n) (length hs)) ≡ counted (i + 1) (suc n) hs e (leb (suc n) (length hs))
  past_skip i n [] e = rw (leb-suc-zero n)
  past_skip i n (h ∷ hs) e = refl

  past_frame : (i n : ℕ) (h : Handed K) (hs : List (Handed K)) (e : ℕ) (b : Bool) → h.place + length h.bytes ≡ i
      → counted h.place (suc n) (h ∷ hs) e b ≡ record { frames = h ∷ (counted i n hs e b).frames; stop = (counted i n hs e b).stop; full = (counted i n hs e b).full }
  past_frame i n h hs e true q = ap (λ m. record { frames = h ∷ take n hs; stop = behind m (take n hs); full = true }) q
  past_frame i n h hs e false q = refl

module _ {W K : Type 0} where
  -- the first frames of items of which the first stands at place i
  abbrev first_at : ℕ → ℕ → List (Item W K) → Found K
  first_at i zero is = record { frames = []; stop = i; full = true }
  first_at i (suc n) [] = record { frames = []; stop = i; full = false }
  first_at i (suc n) (Skipped w x ∷ is) = first_at (i + 1) (suc n) is
  first_at i (suc n) (Framed k f ∷ is) =
      let r = first_at (i + length f) n is in
      record { frames = record { place = i; kind = k; bytes = f } ∷ r.frames; stop = r.stop; full = r.full }

  few : (n i : ℕ) (is : List (Item W K)) → length (first_at i n is).frames ≤ n
  few zero i is = omega arith
  few (suc n) i [] = omega arith
  few (suc n) i (Skipped w x ∷ is) = few (suc n) (i + 1) is
  few (suc n) i (Framed k f ∷ is) = omega (arith, few n (i + length f) is)

  comes : (n k i m : ℕ) (is : List (Item W K)) (st ln : List ℕ)
      → list_on n k i m is st ln
      ≡ (listed (k + length (first_at i n is).frames) (first_at i n is).stop (m + framed (first_at i n is).frames) (first_at i n is).full, sets st k (starts_of (first_at i n is).frames), sets ln k (lengths_of (first_at i n is).frames))
  comes zero k i m is st ln = λ j. (listed (sym (add-zero k) j) i (sym (add-zero m) j) true, st, ln)
  comes (suc n) k i m [] st ln = λ j. (listed (sym (add-zero k) j) i (sym (add-zero m) j) false, st, ln)
  comes (suc n) k i m (Skipped w x ∷ is) st ln = comes (suc n) k (i + 1) m is st ln
  comes (suc n) k i m (Framed x f ∷ is) st ln =
      let r = first_at (i + length f) n is in
      let a : k + 1 + length r.frames ≡ k + suc (length r.frames) = omega arith in
      let b : m + length f + framed r.frames ≡ m + (length f + framed r.frames) = omega arith in
      comes n (k + 1) (i + length f) (m + length f) is (set st k i) (set ln k (length f))
      ∙ (λ j. (listed (a j) r.stop (b j) r.full, sets (set st k i) (add-one k j) (starts_of r.frames), sets (set ln k (length f)) (add-one k j) (lengths_of r.frames)))

  first_counted : (n i : ℕ) (is : List (Item W K)) → counted i n (handed i is) (i + length (bytes_of is)) (leb n (length (handed i is))) ≡ first_at i n is
  first_counted zero i is = ap (counted i 0 (handed i is) (i + length (bytes_of is))) (leb-zero (length (handed i is)))
  first_counted (suc n) i [] = ap₂ (λ e b. counted i (suc n) [] e b) (add-zero i) (leb-suc-zero n)
  first_counted (suc n) i (Skipped w x ∷ is) =
      let e : i + suc (length (bytes_of is)) ≡ i + 1 + length (bytes_of is) = omega arith in
      ap (λ e. counted i (suc n) (handed (i + 1) is) e (leb (suc n) (length (handed (i + 1) is)))) e
      ∙ past_skip i n (handed (i + 1) is) (i + 1 + length (bytes_of is))
      ∙ first_counted (suc n) (i + 1) is
  first_counted (suc n) i (Framed k f ∷ is) =
      let h : Handed K = record { place = i; kind = k; bytes = f } in
      let hs = handed (i + length f) is in
      let e : i + length (f ++ bytes_of is) ≡ i + length f + length (bytes_of is) = omega (arith, length-append f (bytes_of is)) in
      ap₂ (λ e b. counted i (suc n) (h ∷ hs) e b) e (leb-suc-suc n (length hs))
      ∙ past_frame (i + length f) n h hs (i + length f + length (bytes_of is)) (leb n (length hs)) refl
      ∙ ap (λ (r : Found K). record { frames = h ∷ r.frames; stop = r.stop; full = r.full }) (first_counted n (i + length f) is)

  first_is_at : (n : ℕ) (r : Scanned W K) → first_of n r ≡ first_at 0 n r.items
  first_is_at n r =
      ap (λ e. counted 0 n (handed 0 r.items) e (leb n (length (handed 0 r.items)))) (sym (zero-add (length (bytes_of r.items)))) ∙ first_counted n 0 r.items

  -- A LISTING comes to the first frames of the scan, as many as the lists have places.
  pub comes_first : (n : ℕ) (r : Scanned W K) (st ln : List ℕ) → n ≤ length st → n ≤ length ln
      → list_on n 0 0 0 r.items st ln ≡ (listing (first_of n r), onto (starts_of (first_of n r).frames) st, onto (lengths_of (first_of n r).frames) ln)
  comes_first n r st ln hs hl =
      let f = first_at 0 n r.items in
      let l = few n 0 r.items in
      let a : sets st 0 (starts_of f.frames) ≡ onto (starts_of f.frames) st =
      sets-eq (starts_of f.frames) st 0 (omega (arith, length-map f.frames (λ h. h.place))) ∙ over_zero (starts_of f.frames) st in
      let b : sets ln 0 (lengths_of f.frames) ≡ onto (lengths_of f.frames) ln =
      sets-eq (lengths_of f.frames) ln 0 (omega (arith, length-map f.frames (λ h. length h.bytes))) ∙ over_zero (lengths_of f.frames) ln in
      comes n 0 0 0 r.items st ln
      ∙ (λ j. (listed (zero-add (length f.frames) j) f.stop (zero-add (framed f.frames) j) f.full, a j, b j))
      ∙ ap (λ (g : Found K). (listing g, onto (starts_of g.frames) st, onto (lengths_of g.frames) ln)) (sym (first_is_at n r))

-- ---- the bytes that it looks at

module _ (k : ℕ) (l : List ℕ) (m : ℕ) (e : m ≡ min (length l) k) where
  first_bytes : take (m - 0) l ≡ take k l
  first_bytes = go (dec_lt k (length l))
    where
      go : Dec (k < length l) → take (m - 0) l ≡ take k l
      go (yes q) = let z : m - 0 ≡ k = omega arith in ap (λ n. take n l) z
      go (no q) = take_all (m - 0) l (omega arith) ∙ sym (take_all k l (omega arith))

  pub not_more : length (take (m - 0) l) ≤ k
  not_more = omega (arith, length-take-le (m - 0) l (omega arith))

-- the same of a call, whatever the sizes
pub lists_first : (mode : ℕ) (h p st ln : List ℕ) (i j room : ℕ) → i ≡ min (length h) 1029 → j ≡ min (length p) 65536 → room ≡ min (length st) (length ln)
    → {x : Listing × List ℕ × List ℕ} → x ≡ list_on room 0 0 0 (scan (decide (framing_of mode)) (take (i - 0) h ++ take (j - 0) p)).items st ln → x ≡ list_of mode h p st ln
lists_first mode h p st ln i j room ei ej er e =
    let s : take (i - 0) h ++ take (j - 0) p ≡ looked_at h p = ap₂ (λ a b. a ++ b) (first_bytes 1029 h i ei) (first_bytes 65536 p j ej) in
    e
    ∙ ap₂ (λ n t. list_on n 0 0 0 (scan (decide (framing_of mode)) t).items st ln) er s
    ∙ comes_first (min (length st) (length ln)) (scan (decide (framing_of mode)) (looked_at h p)) st ln (omega arith) (omega arith)
