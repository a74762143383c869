-- The search at the end of a recording, where nothing waits: from one start byte to the next; and the moves by what it finds are the closing call. Assumes nothing.
use mathlib.Core.Path.{◌≡◌, refl, sym, ap, ◌∙◌, subst}
use mathlib.Core.Bool.{Bool, false}
use mathlib.Core.List.{List, [], ◌∷◌, ◌++◌, append-nil}
use Prim.Native.Nat.{ℕ, zero, suc, ◌+◌, ◌-◌, ◌≤◌, ◌<◌}
use native.Mathlib.Nat.{sub-zero, add-zero}
use native.Mathlib.Omega.{arith}
use lib.ListN.{length, get_or, take, drop, length-drop}
use lib.Seq.{drop-cons, length-take-le}
use Rattle.bits.specs.Told.{Told, Accepted, Refused}
use Rattle.bits.specs.Outcome.{outcome}
use Rattle.bits.proofs.OutcomeLaws.{Keeps}
use Rattle.frames.specs.Scan.{Decision, Skip, Take, Wait, Item, Skipped}
use Rattle.frames.specs.Framing.{Framing, Lawful, decide}
use Rattle.frames.specs.Rtcm.{Why, Kind}
use Rattle.frames.specs.Modes.{framing_of}
use Rattle.frames.specs.Feed.{Next, Held, Found, skipping, next_step, next, only, feed}
use Rattle.frames.specs.Call as call
use Rattle.frames.specs.Call.{Scanner, FedAnswer, feed_of}
use Rattle.frames.specs.Close.{Gave, Judged, Unfinished, final, ending, ClosedAnswer, closed_by, close_of}
use Rattle.frames.specs.Steps.{Start, candidate, candidate_by, searched, CanHold, moved}
use Rattle.frames.specs.declared.scan.Candidate.TheVariants.{Incomplete, NotValid, Good}
use Rattle.frames.specs.declared.scan.Searched.{Searched}
use Rattle.frames.specs.declared.scan.Searched.TheVariants as s
use Rattle.frames.proofs.FramingLaws.{decides, enough}
use Rattle.frames.proofs.FeedInduction.{along_next}
use Rattle.frames.proofs.KeptLaws.{kept, held_within}
use Rattle.frames.proofs.CallLaws.{Fits, accepted, feed_keeps}
use Rattle.frames.proofs.AnswerLaws.{held_count}
use Rattle.frames.proofs.CandidateLaws.{first_is}
use Rattle.frames.proofs.StartLaws.{Starts}
use Rattle.frames.proofs.KindLaws.{KindNext, KindFed, kind_skipping, at_front}
use Rattle.frames.proofs.CloseLaws.{final_takes, ending_decides, close_is, close_by}
use Rattle.frames.proofs.MovedLaws.{can_hold, makes}

-- what is found behind i bytes that were skipped
abbrev pub beyond : ℕ → Searched → Searched
beyond i (s.More k) = s.More (i + k)
beyond i (s.Frame k l t) = s.Frame (i + k) l t

beyond_none : (r : Searched) → beyond 0 r ≡ r
beyond_none (s.More k) = let e : 0 + k ≡ k = omega arith in ap s.More e
beyond_none (s.Frame k l t) = let e : 0 + k ≡ k = omega arith in ap (λ n. s.Frame n l t) e

beyond_one : (i : ℕ) (r : Searched) → beyond i (beyond 1 r) ≡ beyond (i + 1) r
beyond_one i (s.More k) = let e : i + (1 + k) ≡ i + 1 + k = omega arith in ap s.More e
beyond_one i (s.Frame k l t) = let e : i + (1 + k) ≡ i + 1 + k = omega arith in ap (λ n. s.Frame n l t) e

-- ---- what is decided at the end, by what is candidate

module _ {W K : Type 0} where
  one_more : (i : Item W K) (r : Next W K) → searched (only (skipping i r)) ≡ beyond 1 (searched (only r))
  one_more i (Held is h) = let e : suc (length is) ≡ 1 + length is = omega arith in ap s.More e
  one_more i (Found is k f h) = let e : suc (length is) ≡ 1 + length is = omega arith in ap (λ n. s.Frame n (length f) 0) e

  -- an incomplete start and one that is not valid are skipped
  abbrev Skips : Decision W K → Type 0
  Skips q = (w : Gave W) × (final q ≡ Skip w)

  skips_cut : (q : Decision W K) (n : ℕ) → Incomplete ≡ candidate_by q n → Skips q
  skips_cut (Skip w) n e = (Judged w, refl)
  skips_cut (Take k m) n e = let z : ◌≡◌ {A = ℕ} 0 1 = cc in absurd (omega arith)
  skips_cut Wait n e = (Unfinished, refl)

  skips_bad : (q : Decision W K) (n m : ℕ) → NotValid m ≡ candidate_by q n → Skips q
  skips_bad (Skip w) n m e = (Judged w, refl)
  skips_bad (Take k l) n m e = let z : ◌≡◌ {A = ℕ} 0 1 = cc in absurd (omega arith)
  skips_bad Wait n m e = (Unfinished, refl)

  takes_good : (q : Decision W K) (n m : ℕ) → Good m ≡ candidate_by q n → (k : K) × (q ≡ Take k m)
  takes_good (Skip w) n m e = let z : ◌≡◌ {A = ℕ} 0 1 = cc in absurd (omega arith)
  takes_good (Take k l) n m e = let z : l ≡ m = cc in (k, ap (Take k) z)
  takes_good Wait n m e = let z : ◌≡◌ {A = ℕ} 0 1 = cc in absurd (omega arith)

module _ {W K : Type 0} (F : Framing W K) (h : List ℕ) where
  -- the search has skipped i bytes
  pub record Past (i : ℕ) : Type 0 where
    pub within : i ≤ length h
    pub rest : beyond i (searched (only (next (decide (ending F)) (drop i h)))) ≡ searched (feed (decide (ending F)) h [])

  pub past_none : Past 0
  past_none = record { within = omega arith; rest = beyond_none (searched (only (next (decide (ending F)) h))) }

  -- at a place where there is a byte
  module _ (i : ℕ) (l : i < length h) where
    decided : decide (ending F) (get_or h i 0 ∷ drop (suc i) h) ≡ final (decide F (drop i h))
    decided = ending_decides F (get_or h i 0) (drop (suc i) h) ∙ ap (λ z. final (decide F z)) (sym (drop-cons h i 0 l))

    steps : next (decide (ending F)) (drop i h) ≡ next_step (final (decide F (drop i h))) (get_or h i 0) (drop (suc i) h) (next (decide (ending F)) (drop (suc i) h))
    steps =
        ap (next (decide (ending F))) (drop-cons h i 0 l)
        ∙ ap (λ q. next_step q (get_or h i 0) (drop (suc i) h) (next (decide (ending F)) (drop (suc i) h))) decided

    -- its byte is skipped
    past_one : (w : Gave W) → final (decide F (drop i h)) ≡ Skip w → Past i → Past (i + 1)
    past_one w e p =
        let d = decide (ending F) in
        let r = next d (drop (suc i) h) in
        let n : next d (drop i h) ≡ skipping (Skipped w (get_or h i 0)) r = steps ∙ ap (λ q. next_step q (get_or h i 0) (drop (suc i) h) r) e in
        let m : suc i ≡ i + 1 = omega arith in
        record {
          within = omega (arith, l);
          rest =
              ap (λ k. beyond (i + 1) (searched (only (next d (drop k h))))) (sym m)
              ∙ sym (beyond_one i (searched (only r)))
              ∙ ap (beyond i) (sym (one_more (Skipped w (get_or h i 0)) r) ∙ ap (λ z. searched (only z)) (sym n))
              ∙ p.rest;
        }

  -- all was skipped
  pub past_all : (i : ℕ) → Past i → length h ≤ i → s.More i ≡ searched (feed (decide (ending F)) h [])
  past_all i p l = ap s.More (sym (add-zero i)) ∙ ap (λ z. beyond i (searched (only (next (decide (ending F)) z)))) (sym (none_left (drop i h) (length-drop i h ∙ gone))) ∙ p.rest
    where
      gone : length h - i ≡ 0
      gone = omega arith

      none_left : (t : List ℕ) → length t ≡ 0 → t ≡ []
      none_left [] e = refl
      none_left (x ∷ xs) e = absurd (omega (arith, e))

  module _ (L : Lawful F) (start : ℕ → Bool) (S : Starts F start) where
    -- a byte that is no start is skipped
    past_plain : (i : ℕ) → i < length h → start (get_or h i 0) ≡ false → Past i → Past (i + 1)
    past_plain i l e p =
        let f : start (get_or (drop i h) 0 0) ≡ false = ap start (first_is h i) ∙ e in
        let n : F.need (drop i h) ≡ 1 = S.alone (drop i h) f in
        let v = S.skips (drop i h) f in
        let q : decide F (drop i h) ≡ Skip v.0 = enough F (drop i h) (omega (arith, n, length-drop i h)) ∙ v.1 in
        past_one i l (Judged v.0) (ap final q) p

    past_run : (m i : ℕ) → i + m ≤ length h → ((k : ℕ) → k < i + m → i ≤ k → start (get_or h k 0) ≡ false) → Past i → Past (i + m)
    past_run zero i l e p = subst Past (sym (add-zero i)) p
    past_run (suc m) i l e p =
        let z : i + 1 + m ≡ i + suc m = omega arith in
        subst Past z (past_run m (i + 1) (omega arith) (λ k a b. e k (omega arith) (omega arith)) (past_plain i (omega arith) (e i (omega arith) (omega arith)) p))

    module _ (i : ℕ) (p : Past i) (j : ℕ) (t : Start start h i j) where
      pub past_start : Past j
      past_start =
          let z : i + (j - i) ≡ j = omega (arith, t.from) in
          subst Past z (past_run (j - i) i (omega (arith, t.within, t.from)) (λ k a b. t.none k (omega (arith, t.from)) b) p)

      module _ (l : j < length h) where
        -- an unfinished candidate is skipped by one byte
        pub past_cut : Incomplete ≡ candidate F (drop j (h ++ [])) → Past (j + 1)
        unfolding candidate
        past_cut e =
            let q = skips_cut (decide F (drop j h)) (F.need (drop j h)) (rw append-nil at e) in
            past_one j l q.0 q.1 past_start

        module _ (n : ℕ) where
          -- and so is one that is not valid
          pub past_bad : NotValid n ≡ candidate F (drop j (h ++ [])) → Past (j + 1)
          unfolding candidate
          past_bad e =
              let q = skips_bad (decide F (drop j h)) (F.need (drop j h)) n (rw append-nil at e) in
              past_one j l q.0 q.1 past_start

          -- a frame is handed out
          pub past_good : Good n ≡ candidate F (drop j (h ++ [])) → s.Frame j n 0 ≡ searched (feed (decide (ending F)) h [])
          unfolding candidate
          past_good e =
              let d = decide (ending F) in
              let g = takes_good (decide F (drop j h)) (F.need (drop j h)) n (rw append-nil at e) in
              let w = (decides F L).whole (drop j h) g.0 n g.1 in
              let c : drop j h ≡ get_or h j 0 ∷ drop (suc j) h = drop-cons h j 0 l in
              let u : next d (drop j h) ≡ Found [] g.0 (take n (get_or h j 0 ∷ drop (suc j) h)) (drop n (get_or h j 0 ∷ drop (suc j) h)) =
              steps j l ∙ ap (λ q. next_step (final q) (get_or h j 0) (drop (suc j) h) (next d (drop (suc j) h))) g.1 in
              let m : length (take n (get_or h j 0 ∷ drop (suc j) h)) ≡ n = ap (λ z. length (take n z)) (sym c) ∙ length-take-le n (drop j h) w.1 in
              (λ k. s.Frame (sym (add-zero j) k) (sym m k) 0) ∙ ap (λ z. beyond j (searched (only z))) (sym u) ∙ past_start.rest

-- ---- the closing call, by what the search finds

never_waits : (F : Framing Why Kind) (t : List ℕ) → decide (ending F) t ≡ Wait → length t < 1029
never_waits F [] e = omega arith
never_waits F (x ∷ xs) e = go (decide F (x ∷ xs)) (sym (ending_decides F x xs) ∙ e)
  where
    go : (q : Decision Why Kind) → final q ≡ Wait → length (x ∷ xs) < 1029
    go (Skip w) f = let z : ◌≡◌ {A = ℕ} 0 1 = cc in absurd (omega arith)
    go (Take k n) f = let z : ◌≡◌ {A = ℕ} 0 1 = cc in absurd (omega arith)
    go Wait f = let z : ◌≡◌ {A = ℕ} 0 1 = cc in absurd (omega arith)

module _ (mode : ℕ) where
  abbrev E : Framing (Gave Why) Kind
  E = ending (framing_of mode)

  kind_next : (h : List ℕ) → KindNext (next (decide E) h)
  kind_next h =
      along_next (decide E) (λ h r. KindNext r) tt (λ w x xs r e ih. kind_skipping (Skipped w x) r ih)
      (λ k n x xs e. at_front mode k n x xs (final_takes (decide (framing_of mode)) (decide (framing_of mode) (x ∷ xs)) k n (sym (ending_decides (framing_of mode) x xs) ∙ e)))
      (λ x xs e. tt) h

  kind_only : (r : Next (Gave Why) Kind) → KindNext r → KindFed (only r)
  kind_only (Held is g) k = tt
  kind_only (Found is i f g) k = k

  module _ (a : List ℕ) (x : Scanner) (o : List ℕ) (f : Fits a x [] o) (r : Searched) (e : r ≡ searched (feed (decide E) (take (x.count - 0) a) [])) where
    same : r ≡ searched (feed (decide E) (take x.count a) [])
    same = rw sub-zero at e

    held : length (take x.count a) ≡ x.count
    held = held_count E a x [] o f

    -- the places that the search found are there
    pub end_can_hold : CanHold (length a) x.count 0 r
    end_can_hold =
        rw (same, f.area)
        (can_hold a x [] o held (feed (decide E) (take x.count a) []) (kept (decide E) [] (take x.count a))
        (held_within (decide E) 1029 (omega arith) (never_waits (framing_of mode)) [] (take x.count a) (omega (arith, held, f.count))))

    -- and moving by them is the call
    end_moved : moved a x [] o r ≡ feed_of E a x [] o
    end_moved =
        ap (moved a x [] o) same
        ∙ makes a x [] o held (feed (decide E) (take x.count a) []) (kept (decide E) [] (take x.count a)) (kind_only (next (decide E) (take x.count a)) (kind_next (take x.count a)))
        ∙ sym (accepted E a x [] o f)

    pub end_closes : {t : Told (FedAnswer Kind)} {c : Told (ClosedAnswer Kind)} {b q : List ℕ} → outcome t (b, q) ≡ moved a x [] o r → c ≡ closed_by t
        → outcome c (b, q) ≡ close_of (framing_of mode) a x o
    end_closes {t} {c} {b} {q} m g =
        ap (λ z. outcome z (b, q)) g ∙ sym (close_by (framing_of mode) a x o (outcome t (b, q)) (sym (m ∙ end_moved)))

-- a refusal of the call is one of closing
module _ {W K : Type 0} (F : Framing W K) (a : List ℕ) (x : Scanner) (o : List ℕ) where
  pub refuses : {n : ℕ} {cs : List ℕ} → feed_of (ending F) a x [] o ≡ outcome (Refused n cs) (a, o) → outcome (Refused n cs) (a, o) ≡ close_of F a x o
  refuses {n} {cs} e = sym (close_by F a x o (outcome (Refused n cs) (a, o)) e)

  was_refused : (r : Told (FedAnswer K)) {n : ℕ} {cs : List ℕ} → closed_by r ≡ Refused n cs → (m : ℕ) × (ds : List ℕ) × (r ≡ Refused m ds)
  was_refused (Refused m ds) e = (m, ds, refl)
  was_refused (Accepted (call.More t u z)) e = let z : ◌≡◌ {A = ℕ} 0 1 = cc in absurd (omega arith)
  was_refused (Accepted (call.Frame l t u i k z)) e = let z : ◌≡◌ {A = ℕ} 0 1 = cc in absurd (omega arith)

  -- A REFUSED CLOSING CALL writes nothing.
  pub close_keeps : Keeps (a, o) (close_of F a x o)
  close_keeps =
      record {
        kept = λ e.
            let r = was_refused (feed_of (ending F) a x [] o).answer (ap (λ z. z.answer) (sym (close_is F a x o)) ∙ e) in
            ap (λ z. z.areas) (close_is F a x o) ∙ (feed_keeps (ending F) a x [] o).kept r.2;
      }
