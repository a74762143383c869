-- What a framing decides at a place: in what form laws of a call take it, and of RTCM 3 by what the code has in hand there. Assumes nothing.
use mathlib.Core.Path.{◌≡◌, refl, sym, ap, ◌∙◌, subst}
use mathlib.Core.Bool.{Bool, true, false, cond}
use mathlib.Core.List.{List, ◌++◌}
use Prim.Native.Nat.{ℕ, ◌+◌, ◌-◌, ◌*◌, ◌%◌, ◌^◌, ◌≤◌, ◌<◌}
use native.Mathlib.Nat.{add-zero}
use native.Mathlib.Omega.{arith}
use native.Mathlib.Decide.{dec_lt}
use lib.ListN.{length, get_or, take, drop, length-append, length-drop}
use lib.Seq.{get_or-drop}
use lib.Dec.{leb}
use borrow.Author.Tests.{le-leb, lt-leb, leb-true, leb-false, eq-eqb, ne_eqb}
use Rattle.bits.specs.Field.{field}
use Rattle.bits.specs.Crc.{crc}
use Rattle.bits.proofs.PartLaws.{field_drop}
use Rattle.bits.proofs.ThreeLaws.{three_field}
use Rattle.frames.specs.Scan.{Decision, Skip, Take, Wait}
use Rattle.frames.specs.Framing.{Framing, Lawful}
use Rattle.frames.specs.Frame.{data_length, own_sum, sent_sum}
use Rattle.frames.specs.Rtcm.{rtcm}
use Rattle.frames.specs.Steps.{Start, candidate, candidate_by}
use Rattle.frames.specs.declared.scan.Candidate.{Candidate}
use Rattle.frames.specs.declared.scan.Candidate.TheVariants.{Incomplete, NotValid, Good}
use Rattle.frames.proofs.FrameLaws.{length_at}
use Rattle.frames.proofs.AppendLaws.{length_stays}
use Rattle.frames.proofs.SeamLaws.{at_left, at_right}

-- ---- the first start byte of two lists, one behind the other

module _ (start : ℕ → Bool) (h p : List ℕ) (i j : ℕ) where
  -- it stands in the second, from a place there on
  pub start_right : length h ≤ i → Start start p (i - length h) j → Start start (h ++ p) i (length h + j)
  start_right l s =
      record {
        from = omega (arith, s.from);
        within = rw length-append (omega (arith, s.within));
        none = λ k a b. ap start (sym (at_right h p k (omega arith))) ∙ s.none (k - length h) (omega arith) (omega arith);
        there = λ a.
            let m : length h + j - length h ≡ j = omega arith in
            ap start (sym (at_right h p (length h + j) (omega arith)) ∙ ap (λ k. get_or p k 0) m) ∙ s.there (omega (arith, length-append h p));
      }

  -- it stands in the first
  pub start_left : j < length h → Start start h i j → Start start (h ++ p) i j
  start_left l s =
      record {
        from = s.from;
        within = rw length-append (omega arith);
        none = λ k a b. ap start (sym (at_left h p k (omega arith))) ∙ s.none k a b;
        there = λ a. ap start (sym (at_left h p j l)) ∙ s.there l;
      }

-- the first has none from place i on
pub start_both : (start : ℕ → Bool) (h p : List ℕ) (i j k : ℕ) → length h ≤ j → Start start h i j → Start start p 0 k → Start start (h ++ p) i (length h + k)
start_both start h p i j k l s t =
    let z : 0 ≡ length h - length h = omega arith in
    let r = start_right start h p (length h) k (omega arith) (subst (λ n. Start start p n k) z t) in
    record {
      from = omega (arith, s.from, s.within);
      within = r.within;
      none = λ m a b. go m a b (dec_lt m (length h));
      there = r.there;
    }
  where
    go : (m : ℕ) → m < length h + k → i ≤ m → Dec (m < length h) → start (get_or (h ++ p) m 0) ≡ false
    go m a b (yes q) = ap start (sym (at_left h p m q)) ∙ s.none m (omega arith) b
    go m a b (no q) = ap start (sym (at_right h p m (omega arith))) ∙ t.none (m - length h) (omega arith) (omega arith)

-- ---- what is candidate of RTCM

module _ (t : List ℕ) (first : get_or t 0 0 ≡ 0xD3) where
  cut : length t < data_length t + 6 → Incomplete ≡ candidate rtcm t
  unfolding candidate rtcm
  cut l = rw (eq-eqb (get_or t 0 0) 0xD3 first, lt-leb (data_length t + 6) (length t) l)

  module _ (l : data_length t + 6 ≤ length t) where
    pub good : own_sum t ≡ sent_sum t → Good (data_length t + 6) ≡ candidate rtcm t
    unfolding candidate rtcm
    good q = rw (eq-eqb (get_or t 0 0) 0xD3 first, le-leb (data_length t + 6) (length t) l, eq-eqb (own_sum t) (sent_sum t) q)

    bad : (own_sum t ≡ sent_sum t → ⊥) → NotValid (data_length t + 6) ≡ candidate rtcm t
    unfolding candidate rtcm
    bad q = rw (eq-eqb (get_or t 0 0) 0xD3 first, le-leb (data_length t + 6) (length t) l, ne_eqb (own_sum t) (sent_sum t) q)

pub first_is : (s : List ℕ) (i : ℕ) → get_or (drop i s) 0 0 ≡ get_or s i 0
first_is s i = get_or-drop i s 0 0 ∙ ap (λ k. get_or s k 0) (add-zero i)

-- three bytes as they are read
pub three_here : (s : List ℕ) (i : ℕ) {a b c : ℕ} → a ≡ get_or s i 0 → b ≡ get_or s (i + 1) 0 → c ≡ get_or s (i + 2) 0 → a < 256 → b < 256 → c < 256
    → a * 0x10000 + b * 0x100 + c ≡ field s (i * 8) 24
three_here s i ea eb ec la lb lc = omega (arith, three_field s i)

-- the three bytes r at place i give the length
pub length_here : (s : List ℕ) (i r : ℕ) → r ≡ field s (i * 8) 24 → r % 2 ^ 10 ≡ data_length (drop i s)
length_here s i r e = length_at (drop i s) r (e ∙ ap (λ k. field s k 24) (sym (add-zero (i * 8))) ∙ sym (field_drop i s 0 24))

-- at place i of s stands a D3; the length is n, the sum of the bytes is own and the sum sent is sent
module _ (s : List ℕ) (i : ℕ) (e : get_or s i 0 ≡ 0xD3) where
  start : get_or (drop i s) 0 0 ≡ 0xD3
  start = first_is s i ∙ e

  pub candidate_few : length s < i + 6 → Incomplete ≡ candidate rtcm (drop i s)
  candidate_few l = cut (drop i s) start (rw length-drop (omega arith))

  module _ (n : ℕ) (f : n ≡ data_length (drop i s)) where
    pub candidate_cut : length s < i + (n + 6) → Incomplete ≡ candidate rtcm (drop i s)
    candidate_cut l = cut (drop i s) start (rw (length-drop, ← f) (omega arith))

    module _ (own sent : ℕ) (l : i + (n + 6) ≤ length s) (eo : own ≡ crc (take (n + 3) (drop i s))) (es : sent ≡ field s ((i + n + 3) * 8) 24) where
      own_is : own_sum (drop i s) ≡ own
      own_is = ap (λ k. crc (take (k + 3) (drop i s))) (sym f) ∙ sym eo

      sent_is : sent_sum (drop i s) ≡ sent
      sent_is =
          let m : i * 8 + (n + 3) * 8 ≡ (i + n + 3) * 8 = omega arith in
          ap (λ k. field (drop i s) ((k + 3) * 8) 24) (sym f) ∙ field_drop i s ((n + 3) * 8) 24 ∙ ap (λ k. field s k 24) m ∙ sym es

      fits : data_length (drop i s) + 6 ≤ length (drop i s)
      fits = rw (length-drop, ← f) (omega arith)

      pub candidate_good : own ≡ sent → Good (n + 6) ≡ candidate rtcm (drop i s)
      candidate_good q = ap (λ k. Good (k + 6)) f ∙ good (drop i s) start fits (own_is ∙ q ∙ sym sent_is)

      pub candidate_bad : (own ≡ sent → ⊥) → NotValid (n + 6) ≡ candidate rtcm (drop i s)
      candidate_bad q = ap (λ k. NotValid (k + 6)) f ∙ bad (drop i s) start fits (λ r. q (sym own_is ∙ r ∙ sent_is))

-- ---- what it says, of any framing

pub never : {X : Type 0} → false ≡ true → X
never e = let z : ◌≡◌ {A = ℕ} (cond false 1 0) (cond true 1 0) = ap (λ b. cond b 1 0) e in absurd (omega arith)

-- a D3 at the front of h claims more bytes than h and p have
pub front_cut : (h p : List ℕ) (n : ℕ) → 3 ≤ length h → get_or h 0 0 ≡ 0xD3 → n ≡ data_length (drop 0 h) → length h + length p < n + 6 → Incomplete ≡ candidate rtcm (h ++ p)
front_cut h p n l e f k =
    candidate_cut (h ++ p) 0 (sym (at_left h p 0 (omega arith)) ∙ e) n (f ∙ sym (length_stays h p l)) (rw length-append (omega arith))

module _ {W K : Type 0} (F : Framing W K) where
  -- as the laws of a call take it
  abbrev pub Says : List ℕ → Candidate → Type 0
  Says s Incomplete = length s < F.need s
  Says s (NotValid n) = (n ≡ F.need s) × (F.need s ≤ length s) × (w : W) × (F.verdict s ≡ Skip w)
  Says s (Good n) = (n ≡ F.need s) × (F.need s ≤ length s) × (k : K) × (F.verdict s ≡ Take k n)

  module _ (L : Lawful F) where
    says_by_lem : (s : List ℕ) (b : Bool) → leb (F.need s) (length s) ≡ b → (q : Decision W K) → F.verdict s ≡ q → Says s (candidate_by (cond b q Wait) (F.need s))
    says_by_lem s true e (Skip w) f = (refl, leb-true _ _ e, w, f)
    says_by_lem s true e (Take k n) f = (L.taken s k n f, leb-true _ _ e, k, f)
    says_by_lem s true e Wait f = absurd (L.decided s f)
    says_by_lem s false e q f = leb-false _ _ e

    pub says : (s : List ℕ) (r : Candidate) → r ≡ candidate F s → Says s r
    unfolding candidate
    says s r e = subst (Says s) (sym e) (says_by_lem s (leb (F.need s) (length s)) refl (F.verdict s) refl)
