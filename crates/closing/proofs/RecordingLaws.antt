-- A recording that is fed and then closed is one scan that never waits, however it was cut; and each byte that no frame has is on one list, with the reason that the call tells. Assumes nothing.
use mathlib.Core.Path.{◌≡◌, refl, sym, ap, ◌∙◌, subst}
use mathlib.Core.List.{List, [], ◌∷◌, ◌++◌, append-nil, append_assoc}
use Prim.Native.Nat.{ℕ, zero, suc, ◌+◌, ◌≤◌, ◌<◌, pred}
use native.Mathlib.Nat.{add-zero}
use native.Mathlib.Omega.{arith}
use lib.ListN.{length, take, drop, length-append, length-drop}
use lib.Seq.{drop-drop}
use Rattle.bits.specs.Told.{Accepted}
use Rattle.frames.specs.Scan.{Decision, Skip, Take, Wait, Item, Skipped, Framed, Scanned, Handed, after, step, scan_past, scan, bytes_of, handed, skipped_of}
use Rattle.frames.specs.Framing.{Framing, Lawful, decide}
use Rattle.frames.specs.Call.{Scanner, held_from}
use Rattle.frames.specs.Rtcm.{Why, Kind, rtcm}
use Rattle.frames.specs.Close.{Gave, Judged, final, closing, closed}
use Rattle.frames.specs.Offered.{Calls}
use Rattle.frames.proofs.FramingLaws.{decides}
use Rattle.frames.proofs.ItemLaws.{handed_append, skipped_append}
use Rattle.frames.proofs.TakenLaws as takens
use Rattle.frames.proofs.StandLaws.{Stands, stands}
use Rattle.frames.proofs.CloseLaws.{closing_whole, all_given}
use Rattle.frames.proofs.RtcmLaws.{rtcm_lawful}
use Rattle.closing.specs.Closing.{Closes}
use Rattle.closing.specs.Reason.{GivenUp, ruled, ruled_at, listed, Reasoned, judged}
use Rattle.closing.proofs.ClosesLaws.{closes}
use Rattle.closing.proofs.ReasonLaws.{is_ruled}

-- ---- items of feeding as items of the recording

module _ {W K : Type 0} where
  judged_append : (is js : List (Item W K)) → judged (is ++ js) ≡ judged is ++ judged js
  judged_append [] js = refl
  judged_append (Skipped w x ∷ is) js = ap (λ l. Skipped (Judged w) x ∷ l) (judged_append is js)
  judged_append (Framed k f ∷ is) js = ap (λ l. Framed k f ∷ l) (judged_append is js)

  judged_handed : (n : ℕ) (is : List (Item W K)) → handed n (judged is) ≡ handed n is
  judged_handed n [] = refl
  judged_handed n (Skipped w x ∷ is) = judged_handed (n + 1) is
  judged_handed n (Framed k f ∷ is) = ap (λ l. record { place = n; kind = k; bytes = f } ∷ l) (judged_handed (n + length f) is)

  judged_skipped : (is : List (Item W K)) → skipped_of (judged is) ≡ skipped_of is
  judged_skipped [] = refl
  judged_skipped (Skipped w x ∷ is) = ap suc (judged_skipped is)
  judged_skipped (Framed k f ∷ is) = judged_skipped is

  judged_bytes : (is : List (Item W K)) → bytes_of (judged is) ≡ bytes_of is
  judged_bytes [] = refl
  judged_bytes (Skipped w x ∷ is) = ap (λ l. x ∷ l) (judged_bytes is)
  judged_bytes (Framed k f ∷ is) = ap (λ l. f ++ l) (judged_bytes is)

  -- the list has a place for each byte skipped
  pub listed_count : (n : ℕ) (is : List (Item (Gave W) K)) → length (listed n is) ≡ skipped_of is
  listed_count n [] = refl
  listed_count n (Skipped w x ∷ is) = ap suc (listed_count (n + 1) is)
  listed_count n (Framed k f ∷ is) = listed_count (n + length f) is

  -- the list of feeding, and behind it that of closing
  pub listed_append : (n : ℕ) (is js : List (Item (Gave W) K)) → listed n (is ++ js) ≡ listed n is ++ listed (n + length (bytes_of is)) js
  listed_append n [] js = ap (λ m. listed m js) (sym (add-zero n))
  listed_append n (Skipped w x ∷ is) js =
      let e : n + 1 + length (bytes_of is) ≡ n + suc (length (bytes_of is)) = omega arith in
      ap (λ l. record { place = n; why = w } ∷ l) (listed_append (n + 1) is js ∙ ap (λ m. listed (n + 1) is ++ listed m js) e)
  listed_append n (Framed k f ∷ is) js =
      let e : n + length f + length (bytes_of is) ≡ n + length (f ++ bytes_of is) = omega (arith, length-append f (bytes_of is)) in
      listed_append (n + length f) is js ∙ ap (λ m. listed (n + length f) is ++ listed m js) e

-- ---- closing goes on where scanning stops

module _ {W K : Type 0} (d : List ℕ → Decision W K) where
  on_step : (x : ℕ) (xs : List ℕ)
      → ((m : ℕ) → (scan_past (closing d) m xs).items ≡ judged (scan_past d m xs).items ++ (scan (closing d) (scan_past d m xs).held).items)
      → (q : Decision W K) → d (x ∷ xs) ≡ q
      → (step (final q) x xs (λ n. scan_past (closing d) n xs)).items
      ≡ judged (step q x xs (λ n. scan_past d n xs)).items ++ (scan (closing d) (step q x xs (λ n. scan_past d n xs)).held).items
  on_step x xs ih (Skip w) e = ap (λ l. Skipped (Judged w) x ∷ l) (ih 0)
  on_step x xs ih (Take k n) e = ap (λ l. Framed k (take n (x ∷ xs)) ∷ l) (ih (pred n))
  on_step x xs ih Wait e = rw e

  on_past : (m : ℕ) (s : List ℕ) → (scan_past (closing d) m s).items ≡ judged (scan_past d m s).items ++ (scan (closing d) (scan_past d m s).held).items
  on_past zero [] = refl
  on_past (suc m) [] = refl
  on_past (suc m) (x ∷ xs) = on_past m xs
  on_past zero (x ∷ xs) = on_step x xs (λ m. on_past m xs) (d (x ∷ xs)) refl

  pub goes_on : (s : List ℕ) → (scan (closing d) s).items ≡ judged (scan d s).items ++ (scan (closing d) (scan d s).held).items
  goes_on s = on_past 0 s

module _ {W K : Type 0} (F : Framing W K) where
  -- a scan that began with the items is, and goes on in h
  after_items : (s : List ℕ) (is : List (Item W K)) (h : List ℕ) → scan (decide F) s ≡ after is (scan (decide F) h) → closed F s ≡ judged is ++ closed F h
  after_items s is h e =
      goes_on (decide F) s ∙ ap (λ (r : Scanned W K). judged r.items ++ closed F r.held) e
      ∙ ap (λ l. l ++ closed F (scan (decide F) h).held) (judged_append is (scan (decide F) h).items)
      ∙ append_assoc (judged is) (judged (scan (decide F) h).items) (closed F (scan (decide F) h).held)
      ∙ ap (λ l. judged is ++ l) (sym (goes_on (decide F) h))

  module _ (L : Lawful F) {s a : List ℕ} {fs : List (Handed K)} {n : ℕ} {x : Scanner} (c : Calls F s fs n a x) where
    -- what was taken so far, and then closing what is held
    pub fed_then_closed : closed F s ≡ judged (takens.taken F L c).items ++ closed F (take x.count a)
    fed_then_closed =
        let r = takens.taken F L c in
        let e = r.onward [] in
        after_items s r.items (take x.count a) (rw (append-nil s, append-nil (take x.count a)) at e)

    -- the bytes held stand behind what was fed
    held_at : length (bytes_of (judged (takens.taken F L c).items)) ≡ held_from x
    held_at =
        let r = takens.taken F L c in
        let b : length (bytes_of (judged r.items)) ≡ length (bytes_of r.items) = ap length (judged_bytes r.items) in
        omega (arith, b, r.taken, r.count, simp length-append at (ap length r.bytes))

    -- A RECORDING that is fed in whatever pieces and then closed gives one scan of it, which never waits: its frames at their places, fed and then salvaged, and the bytes skipped, in feeding and in closing.
    pub recording : {gs : List (Handed K)} {u : ℕ} {y : Scanner} → Closes F a x gs u y → (handed 0 (closed F s) ≡ fs ++ gs) × (skipped_of (closed F s) ≡ n + u) × (bytes_of (closed F s) ≡ s)
    recording d =
        let r = takens.taken F L c in
        let g = closes F L d in
        let js = closed F (take x.count a) in
        let at : 0 + length (bytes_of (judged r.items)) ≡ held_from x = omega (arith, held_at) in (
          ap (handed 0) fed_then_closed ∙ handed_append 0 (judged r.items) js ∙ (λ j. (judged_handed 0 r.items ∙ r.frames) j ++ handed (at j) js) ∙ ap (λ l. fs ++ l) g.0,
          ap skipped_of fed_then_closed ∙ skipped_append (judged r.items) js ∙ (λ j. (judged_skipped r.items ∙ r.skipped) j + g.1 j),
          all_given F L s,
        )

-- ---- the list of an RTCM recording

some : (t : List ℕ) (x : ℕ) → take 1 t ≡ x ∷ [] → 1 ≤ length t
some [] x e = let z : ◌≡◌ {A = ℕ} 0 1 = ap length e in absurd (omega (arith, z))
some (y ∷ ys) x e = omega arith

reasoned : (s : List ℕ) (n : ℕ) (is : List (Item (Gave Why) Kind)) → n ≤ length s → Stands (closing (decide rtcm)) (drop n s) is → Reasoned s (listed n is)
reasoned s n [] h t = tt
reasoned s n (Skipped w x ∷ is) h t =
    let l : n < length s = omega (arith, some (drop n s) x t.1, length-drop n s) in
    let e : ruled_at s n ≡ Accepted (GivenUp w) = sym (is_ruled s n l) ∙ ap (λ q. Accepted (ruled q)) t.0 in
    let m : drop 1 (drop n s) ≡ drop (n + 1) s = drop-drop 1 n s in
    (e, reasoned s (n + 1) is l' (subst (λ z. Stands (closing (decide rtcm)) z is) m t.2))
  where
    l' : n + 1 ≤ length s
    l' = omega (arith, some (drop n s) x t.1, length-drop n s)
reasoned s n (Framed k f ∷ is) h t =
    let w = closing_whole (decide rtcm) (decides rtcm rtcm_lawful).whole (drop n s) k (length f) t.0 in
    let m : drop (length f) (drop n s) ≡ drop (n + length f) s = drop-drop (length f) n s in
    reasoned s (n + length f) is (omega (arith, w.1, length-drop n s)) (subst (λ z. Stands (closing (decide rtcm)) z is) m t.2)

-- EVERY BYTE of an RTCM recording that is fed in whatever pieces and then closed is in exactly one frame, fed or salvaged, or on the list, in order; the list is as long as the calls counted, and has the reason of each byte as the call tells it.
pub the_list : {s a : List ℕ} {fs gs : List (Handed Kind)} {n u : ℕ} {x y : Scanner} → Calls rtcm s fs n a x → Closes rtcm a x gs u y
    → (handed 0 (closed rtcm s) ≡ fs ++ gs) × (bytes_of (closed rtcm s) ≡ s) × (length (listed 0 (closed rtcm s)) ≡ n + u) × Reasoned s (listed 0 (closed rtcm s))
the_list {s} c d =
    let r = recording rtcm rtcm_lawful c d in (
      r.0,
      r.2,
      listed_count 0 (closed rtcm s) ∙ r.1,
      reasoned s 0 (closed rtcm s) (omega arith) (stands (closing (decide rtcm)) (closing_whole (decide rtcm) (decides rtcm rtcm_lawful).whole) s),
    )
