-- RTCM 3 is a lawful framing, and it decides by the frame check. Assumes nothing.
use mathlib.Core.Path.{◌≡◌, refl}
use mathlib.Core.Bool.{Bool, true, false, cond, not}
use mathlib.Core.List.{List, [], ◌∷◌, ◌++◌}
use Prim.Native.Nat.{ℕ, suc, ◌+◌, ◌≤◌, ◌<◌}
use native.Mathlib.Omega.{arith}
use lib.ListN.{length, get_or, get_or-append}
use lib.Dec.{leb, ltb, eqb}
use borrow.Author.Tests.{le-leb, lt-leb, ltb-true, ltb-false}
use Rattle.bits.specs.Told.{Accepted, bad_check, incomplete}
use Rattle.frames.specs.Scan.{Decision, Skip, Take, Wait}
use Rattle.frames.specs.Framing.{Lawful, decide}
use Rattle.frames.specs.Frame.{data_length, sent_sum, own_sum, whole_of, check}
use Rattle.frames.specs.Rtcm.{Why, NotD3, BadCheck, Kind, Rtcm, rtcm, at_d3, decide_at}
use Rattle.frames.proofs.FrameLaws.{length_small}
use Rattle.frames.proofs.AppendLaws.{length_stays, own_stays, sent_stays}

-- ---- lawful

-- need and verdict, by whether the first byte is D3 and whether the sums agree
abbrev need_if : Bool → List ℕ → ℕ
need_if b s = cond b (data_length s + 6) 1

abbrev verdict_if : Bool → Bool → List ℕ → Decision Why Kind
verdict_if b c s = cond b (cond c (Take Rtcm (data_length s + 6)) (Skip (BadCheck (sent_sum s) (own_sum s)))) (Skip NotD3)

need_some : (b : Bool) (s : List ℕ) → 1 ≤ need_if b s
need_some true s = omega arith
need_some false s = omega arith

need_most : (b : Bool) (s : List ℕ) → need_if b s ≤ 1029
need_most true s = omega (arith, length_small s)
need_most false s = omega arith

module _ (s t : List ℕ) where
  start_stays : 1 ≤ length s → get_or (s ++ t) 0 0 ≡ get_or s 0 0
  start_stays h = get_or-append s t 0 0 h

  need_stays : (b : Bool) → need_if b s ≤ length s → need_if b (s ++ t) ≡ need_if b s
  need_stays true h = rw (length_stays s t (omega arith))
  need_stays false h = refl

  verdict_stays : (b : Bool) → need_if b s ≤ length s → verdict_if b (eqb (own_sum (s ++ t)) (sent_sum (s ++ t))) (s ++ t) ≡ verdict_if b (eqb (own_sum s) (sent_sum s)) s
  verdict_stays true h = rw (own_stays s t h, sent_stays s t h, length_stays s t (omega arith))
  verdict_stays false h = refl

  need_prompt : (b : Bool) → need_if b (s ++ t) ≤ length s → need_if b s ≤ length s
  need_prompt true h = rw (← length_stays s t (omega arith)) h
  need_prompt false h = h

takes_need : (b c : Bool) (s : List ℕ) (k : Kind) (n : ℕ) → verdict_if b c s ≡ Take k n → n ≡ need_if b s
takes_need true true s k n e = cc
takes_need true false s k n e = cc
takes_need false c s k n e = cc

not_wait : (b c : Bool) (s : List ℕ) → verdict_if b c s ≡ Wait → ⊥
not_wait true true s e = let z : ◌≡◌ {A = ℕ} 0 1 = cc in omega arith
not_wait true false s e = let z : ◌≡◌ {A = ℕ} 0 1 = cc in omega arith
not_wait false c s e = let z : ◌≡◌ {A = ℕ} 0 1 = cc in omega arith

pub rtcm_lawful : Lawful rtcm
unfolding rtcm
rtcm_lawful =
    record {
      needs = λ s. need_some (eqb (get_or s 0 0) 0xD3) s;
      most = λ s. need_most (eqb (get_or s 0 0) 0xD3) s;
      same_need = λ s t h.
          let u : 1 ≤ length s = omega (arith, need_some (eqb (get_or s 0 0) 0xD3) s) in
          rw (start_stays s t u) (need_stays s t (eqb (get_or s 0 0) 0xD3) h);
      same_verdict = λ s t h.
          let u : 1 ≤ length s = omega (arith, need_some (eqb (get_or s 0 0) 0xD3) s) in
          rw (start_stays s t u) (verdict_stays s t (eqb (get_or s 0 0) 0xD3) h);
      prompt = λ s t h.
          let u : 1 ≤ length s = omega (arith, need_some (eqb (get_or (s ++ t) 0 0) 0xD3) (s ++ t)) in
          need_prompt s t (eqb (get_or s 0 0) 0xD3) (rw (start_stays s t u) at h);
      taken = λ s k n e. takes_need (eqb (get_or s 0 0) 0xD3) (eqb (own_sum s) (sent_sum s)) s k n e;
      decided = λ s e. not_wait (eqb (get_or s 0 0) 0xD3) (eqb (own_sum s) (sent_sum s)) s e;
    }

-- ---- the frame check decides

module _ (s : List ℕ) where
  by_sums_lem : (c : Bool) → verdict_if true c s ≡ at_d3 (cond (not c) (bad_check (sent_sum s) (own_sum s)) (Accepted (whole_of s)))
  by_sums_lem true = refl
  by_sums_lem false = refl

  by_length : (few cut : Bool) → ltb (length s) 6 ≡ few → ltb (length s) (data_length s + 6) ≡ cut → (c : Bool)
      → cond (leb (data_length s + 6) (length s)) (verdict_if true c s) Wait
      ≡ at_d3 (cond few incomplete (cond cut incomplete (cond (not c) (bad_check (sent_sum s) (own_sum s)) (Accepted (whole_of s)))))
  by_length true cut e f c = let u : length s < 6 = ltb-true (length s) 6 e in rw (lt-leb (data_length s + 6) (length s) (omega arith))
  by_length false true e f c = let u : length s < data_length s + 6 = ltb-true (length s) (data_length s + 6) f in rw (lt-leb (data_length s + 6) (length s) u)
  by_length false false e f c =
      let u : data_length s + 6 ≤ length s = ltb-false (length s) (data_length s + 6) f in
      rw (le-leb (data_length s + 6) (length s) u) (by_sums_lem c)

-- At D3 the frame check decides, and any other byte is skipped.
pub decides_at : (s : List ℕ) → decide rtcm s ≡ decide_at s
unfolding rtcm check
decides_at [] = refl
decides_at (x ∷ s) = go (eqb x 0xD3) refl
  where
    go : (b : Bool) → eqb x 0xD3 ≡ b → decide rtcm (x ∷ s) ≡ decide_at (x ∷ s)
    go true e =
        rw e
        (by_length (x ∷ s) (ltb (length (x ∷ s)) 6) (ltb (length (x ∷ s)) (data_length (x ∷ s) + 6)) refl refl (eqb (own_sum (x ∷ s)) (sent_sum (x ∷ s))))
    go false e = rw (e, le-leb 1 (suc (length s)) (omega arith))
