-- The fate of a byte, from one frame to the next; and why a byte is skipped. Assumes nothing.
use mathlib.Core.Path.{◌≡◌, refl, sym, ap, ◌∙◌, subst}
use mathlib.Core.Bool.{Bool, true, false, cond}
use mathlib.Core.List.{List, [], ◌∷◌, ◌++◌, append-nil, append_assoc}
use Prim.Native.Nat.{ℕ, suc, ◌+◌, ◌-◌, ◌≤◌, ◌<◌}
use native.Mathlib.Nat.{add-zero}
use native.Mathlib.Omega.{arith}
use native.Mathlib.Decide.{ℕ_discrete}
use lib.ListN.{length, get_or, take, drop, length-drop}
use lib.Seq.{drop-drop, take_all, length-take-le, get_or-drop}
use lib.Dec.{leb, eqb}
use borrow.Author.Tests.{lt-ltb, le-ltb, le-leb, lt-leb, leb-true, eq-eqb, ne_eqb, eqb-false}
use Rattle.std.specs.Prelude.{Result, Err}
use Rattle.bits.specs.Told.{Told, Accepted, size, bad_check, OneToOne}
use Rattle.bits.specs.declared.refusal.Refusal.{Refusal}
use Rattle.bits.specs.declared.refusal.Refusal.TheVariants as R
use Rattle.bits.proofs.RefusalLaws.{told_one_to_one}
use Rattle.frames.specs.Scan.{Decision, Skip, Take, Wait, Item, Skipped, Framed, Scanned, scan, frames_of}
use Rattle.frames.specs.Framing.{decide}
use Rattle.frames.specs.Frame.{data_length, sent_sum, own_sum, Whole, check}
use Rattle.frames.specs.Rtcm as why
use Rattle.frames.specs.Rtcm.{Why, Kind, Rtcm, rtcm}
use Rattle.frames.specs.Walk as walk
use Rattle.frames.specs.Walk.{cut}
use Rattle.frames.specs.Answers.{told_checked}
use Rattle.frames.specs.Fate.{Fate, InFrame, NotD3, BadCheck, Held, skipped_fate, fate_in, fate_on, fate_of, known_fate, told_fate}
use Rattle.frames.specs.declared.fate.Fate as code
use Rattle.frames.specs.declared.fate.Fate.TheVariants as F
use Rattle.frames.specs.declared.frame.Frame as code_frame
use Rattle.frames.proofs.FramingLaws.{decides}
use Rattle.frames.proofs.FrameLaws.{sums_differ}
use Rattle.frames.proofs.RtcmLaws.{rtcm_lawful}
use Rattle.frames.proofs.StandLaws.{Stands, stands}
use Rattle.frames.proofs.ToldLaws.{injective, checked_one_to_one}
use Rattle.frames.proofs.WalkLaws.{Stops, Finds}

-- ---- which case of the definition holds

module _ (s : List ℕ) (q : ℕ) where
  pub too_long : 65536 < length s → size ≡ fate_of s q
  unfolding fate_of
  too_long h = rw (lt-ltb 65536 (length s) h)

  pub past_end : length s ≤ 65536 → length s ≤ q → size ≡ fate_of s q
  unfolding fate_of
  past_end h l = rw (le-ltb 65536 (length s) h, le-leb (length s) q l)

  pub has_fate : length s ≤ 65536 → q < length s → Accepted (fate_on 0 (scan (decide rtcm) s) q) ≡ fate_of s q
  unfolding fate_of
  has_fate h l = rw (le-ltb 65536 (length s) h, lt-leb (length s) q l)

-- ---- past items, and in them

module _ (h : List ℕ) (q : ℕ) (js : List (Item Why Kind)) where
  -- skipped bytes before the place are passed over
  past_run : (is : List (Item Why Kind)) (n : ℕ) → frames_of is ≡ [] → n + length is ≤ q → fate_in n (is ++ js) h q ≡ fate_in (n + length is) js h q
  past_run [] n e l = ap (λ m. fate_in m js h q) (sym (add-zero n))
  past_run (Skipped w x ∷ is) n e l =
      let m : n + 1 + length is ≡ n + suc (length is) = omega arith in
      rw (ne_eqb q n (λ z. omega arith)) (past_run is (n + 1) e (omega arith) ∙ ap (λ m. fate_in m js h q) m)
  past_run (Framed k f ∷ is) n e l = let z : ◌≡◌ {A = ℕ} 0 1 = cc in absurd (omega arith)

  -- a skipped byte is skipped for what was decided there
  in_run : (is : List (Item Why Kind)) (n : ℕ) (t : List ℕ) → frames_of is ≡ [] → n ≤ q → q < n + length is → Stands (decide rtcm) t (is ++ js)
      → (w : Why) × (decide rtcm (drop (q - n) t) ≡ Skip w) × (fate_in n (is ++ js) h q ≡ skipped_fate q w)
  in_run [] n t e a b st = absurd (omega arith)
  in_run (Framed k f ∷ is) n t e a b st = let z : ◌≡◌ {A = ℕ} 0 1 = cc in absurd (omega arith)
  in_run (Skipped w x ∷ is) n t e a b st = go (ℕ_discrete q n) (λ c. in_run is (n + 1) (drop 1 t) e (omega arith) (omega arith) st.2)
    where
      go : Dec (q ≡ n) → ((q ≡ n → ⊥) → (v : Why) × (decide rtcm (drop (q - (n + 1)) (drop 1 t)) ≡ Skip v) × (fate_in (n + 1) (is ++ js) h q ≡ skipped_fate q v))
          → (v : Why) × (decide rtcm (drop (q - n) t) ≡ Skip v) × (fate_in n (Skipped w x ∷ (is ++ js)) h q ≡ skipped_fate q v)
      go (yes c) ih = let z : q - n ≡ 0 = omega arith in (w, rw z st.0, rw (eq-eqb q n c))
      go (no c) ih =
          let r = ih c in
          let z : 1 + (q - (n + 1)) ≡ q - n = omega arith in
          let d : drop (q - (n + 1)) (drop 1 t) ≡ drop (q - n) t = drop-drop (q - (n + 1)) 1 t ∙ ap (λ m. drop m t) z in
          (r.0, rw d at r.1, rw (ne_eqb q n c) r.2)

-- ---- from one frame to the next

module _ (s : List ℕ) (q : ℕ) where
  -- the byte at place q, seen from place n on
  abbrev pub fate_from : ℕ → Fate
  fate_from n = fate_on n (scan (decide rtcm) (drop n s)) q

  -- the byte is skipped, for the reason that was decided there
  abbrev pub IsSkipped : ℕ → Type 0
  IsSkipped n = (w : Why) × (decide rtcm (drop q s) ≡ Skip w) × (fate_from n ≡ skipped_fate q w)

  stand : (n : ℕ) → Stands (decide rtcm) (drop n s) (scan (decide rtcm) (drop n s)).items
  stand n = stands (decide rtcm) (decides rtcm rtcm_lawful).whole (drop n s)

  skipped_run : (n : ℕ) (is js : List (Item Why Kind)) (h : List ℕ) → scan (decide rtcm) (drop n s) ≡ record { items = is ++ js; held = h }
      → frames_of is ≡ [] → n ≤ q → q < n + length is → IsSkipped n
  skipped_run n is js h g e a b =
      let r = in_run h q js is n (drop n s) e a b (subst (λ (x : Scanned Why Kind). Stands (decide rtcm) (drop n s) x.items) g (stand n)) in
      let z : n + (q - n) ≡ q = omega arith in
      let d : drop (q - n) (drop n s) ≡ drop q s = drop-drop (q - n) n s ∙ ap (λ m. drop m s) z in
      (r.0, rw d at r.1, ap (λ x. fate_on n x q) g ∙ r.2)

  module _ (n p : ℕ) (x : Stops rtcm s n p) where
    gave : scan (decide rtcm) (drop n s) ≡ record { items = x.items ++ []; held = drop p s }
    gave = x.gives ∙ ap (λ is. record { items = is; held = drop p s }) (sym (append-nil x.items))

    pub held_there : p ≤ q → Held p (length s - p) ≡ fate_from n
    held_there l =
        sym (ap (λ r. fate_on n r q) gave ∙ past_run (drop p s) q [] x.items n x.none (omega (arith, x.count))
        ∙ ap (λ m. Held m (length (drop p s))) x.count ∙ ap (Held p) (length-drop p s))

    pub skipped_held : n ≤ q → q < p → IsSkipped n
    skipped_held a b = skipped_run n x.items [] (drop p s) gave x.none a (omega (arith, x.count))

  module _ (n p l : ℕ) (x : Finds rtcm s n p l) where
    abbrev frame : Item Why Kind
    frame = Framed x.kind (cut s (walk.Frame p l))

    abbrev rest : Scanned Why Kind
    rest = scan (decide rtcm) (drop (p + l) s)

    scanned : scan (decide rtcm) (drop n s) ≡ record { items = x.items ++ (frame ∷ rest.items); held = rest.held }
    scanned = x.gives ∙ ap (λ is. record { items = is; held = rest.held }) (append_assoc x.items (frame ∷ []) rest.items)

    size_is : length (cut s (walk.Frame p l)) ≡ l
    size_is = length-take-le l (drop p s) (rw length-drop (omega (arith, x.fits)))

    at_frame : p ≤ q → fate_from n ≡ fate_in p (frame ∷ rest.items) rest.held q
    at_frame a =
        ap (λ r. fate_on n r q) scanned ∙ past_run rest.held q (frame ∷ rest.items) x.items n x.none (omega (arith, x.count))
        ∙ ap (λ m. fate_in m (frame ∷ rest.items) rest.held q) x.count

    pub frame_there : p ≤ q → q < p + l → InFrame p l ≡ fate_from n
    frame_there a b = sym (at_frame a ∙ rw (size_is, lt-ltb q (p + l) b))

    pub behind_frame : p + l ≤ q → fate_from (p + l) ≡ fate_from n
    behind_frame a = sym (at_frame (omega arith) ∙ rw (size_is, le-ltb q (p + l) a))

    pub skipped_before : n ≤ q → q < p → IsSkipped n
    skipped_before a b = skipped_run n x.items (frame ∷ rest.items) rest.held scanned x.none a (omega (arith, x.count))

-- ---- why a byte is skipped

module _ (t : List ℕ) (w : Why) where
  abbrev Sums : Type 0
  Sums = (bad_check (sent_sum t) (own_sum t) ≡ check t) × (w ≡ why.BadCheck (sent_sum t) (own_sum t))

  of_start : (l c : Bool) → leb (data_length t + 6) (length t) ≡ l → eqb (own_sum t) (sent_sum t) ≡ c → get_or t 0 0 ≡ 0xD3
      → cond l (cond c (Take Rtcm (data_length t + 6)) (Skip (why.BadCheck (sent_sum t) (own_sum t)))) Wait ≡ Skip w → Sums
  of_start true true a b d e = let z : ◌≡◌ {A = ℕ} 0 1 = cc in absurd (omega arith)
  of_start true false a b d e =
      let u : data_length t + 6 ≤ length t = leb-true (data_length t + 6) (length t) a in
      let y : why.BadCheck (sent_sum t) (own_sum t) ≡ w = cc in
      (sums_differ t (omega arith) d u (eqb-false (own_sum t) (sent_sum t) b), sym y)
  of_start false c a b d e = let z : ◌≡◌ {A = ℕ} 0 1 = cc in absurd (omega arith)

  -- a D3 that is skipped has checksums that differ, and the check tells them
  at_d3_lem : get_or t 0 0 ≡ 0xD3 → decide rtcm t ≡ Skip w → Sums
  unfolding rtcm
  at_d3_lem d e =
      of_start (leb (data_length t + 6) (length t)) (eqb (own_sum t) (sent_sum t)) refl refl d (rw (eq-eqb (get_or t 0 0) 0xD3 d) at e)

  -- any other byte is skipped for not being D3
  not_d3 : (get_or t 0 0 ≡ 0xD3 → ⊥) → decide rtcm t ≡ Skip w → w ≡ why.NotD3
  unfolding rtcm
  not_d3 d e = go (leb 1 (length t)) (rw (ne_eqb (get_or t 0 0) 0xD3 d) at e)
    where
      go : (l : Bool) → ◌≡◌ {A = Decision Why Kind} (cond l (Skip why.NotD3) Wait) (Skip w) → w ≡ why.NotD3
      go true e = let y : why.NotD3 ≡ w = cc in sym y
      go false e = let z : ◌≡◌ {A = ℕ} 0 1 = cc in absurd (omega arith)

-- ---- by what the code has in hand

-- the bytes from a place on are all that is left
pub checked_all : (s : List ℕ) (q : ℕ) {r : Told Whole} → r ≡ check (take (length s - q) (drop q s)) → r ≡ check (drop q s)
checked_all s q e = e ∙ ap check (take_all (length s - q) (drop q s) (rw length-drop (omega arith)))

module _ (s : List ℕ) (q : ℕ) (w : Why) (e : decide rtcm (drop q s) ≡ Skip w) where
  first : get_or (drop q s) 0 0 ≡ get_or s q 0
  first = get_or-drop q s 0 0 ∙ ap (λ k. get_or s k 0) (add-zero q)

  pub tells_not_d3 : (get_or s q 0 ≡ 0xD3 → ⊥) → NotD3 q ≡ skipped_fate q w
  tells_not_d3 d = ap (skipped_fate q) (sym (not_d3 (drop q s) w (λ z. d (sym first ∙ z)) e))

  module _ (d : get_or s q 0 ≡ 0xD3) (r : Result code_frame.Frame Refusal) (c : told_checked r ≡ check (drop q s)) where
    sums : Sums (drop q s) w
    sums = at_d3_lem (drop q s) w (first ∙ d) e

    answer : r ≡ Err (R.BadCheck (sent_sum (drop q s)) (own_sum (drop q s)))
    answer = checked_one_to_one.same (c ∙ sym sums.0)

    refusal : {e : Refusal} → r ≡ Err e → e ≡ R.BadCheck (sent_sum (drop q s)) (own_sum (drop q s))
    refusal {e} g = let y : ◌≡◌ {A = Result code_frame.Frame Refusal} (Err e) (Err (R.BadCheck (sent_sum (drop q s)) (own_sum (drop q s)))) = sym g ∙ answer in cc

    pub tells_sums : {e : Refusal} {a b : ℕ} → r ≡ Err e → e ≡ R.BadCheck a b → BadCheck q a b ≡ skipped_fate q w
    tells_sums {e} {a} {b} g h =
        let y : R.BadCheck a b ≡ R.BadCheck (sent_sum (drop q s)) (own_sum (drop q s)) = sym h ∙ refusal g in
        let ya : a ≡ sent_sum (drop q s) = cc in
        let yb : b ≡ own_sum (drop q s) = cc in
        rw (sums.1, ya, yb)

    -- and nothing else is answered
    pub no_frame : ((e : Refusal) → r ≡ Err e → ⊥) → ⊥
    no_frame o = o _ answer

    pub no_other : {e : Refusal} → r ≡ Err e → ((a b : ℕ) → e ≡ R.BadCheck a b → ⊥) → ⊥
    no_other g o = o (sent_sum (drop q s)) (own_sum (drop q s)) (refusal g)

-- ---- an answer of the code is fixed by what it tells

fate : Fate → code.Fate
fate (InFrame p l) = F.InFrame p l
fate (NotD3 p) = F.NotD3 p
fate (BadCheck p a b) = F.BadCheck p a b
fate (Held p l) = F.Held p l

fate_again : (x : code.Fate) → fate (known_fate x) ≡ x
unfolding fate
fate_again (F.InFrame p l) = refl
fate_again (F.NotD3 p) = refl
fate_again (F.BadCheck p a b) = refl
fate_again (F.Held p l) = refl

pub fate_one_to_one : OneToOne told_fate
fate_one_to_one = told_one_to_one known_fate (injective known_fate fate fate_again)

-- two answers that the statement of `fate::of` allows are equal
pub only_fate : (s : List ℕ) (q : ℕ) {x y : Result code.Fate Refusal} → told_fate x ≡ fate_of s q → told_fate y ≡ fate_of s q → x ≡ y
only_fate s q e f = fate_one_to_one.same (e ∙ sym f)
