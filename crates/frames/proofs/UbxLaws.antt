-- UBX is a lawful framing. Assumes nothing.
use mathlib.Core.Path.{◌≡◌, refl, ap, ◌∙◌}
use mathlib.Core.Bool.{Bool, true, false, cond}
use mathlib.Core.List.{List, [], ◌∷◌, ◌++◌}
use Prim.Native.Nat.{ℕ, ◌+◌, ◌≤◌, ◌<◌}
use native.Mathlib.Omega.{arith}
use native.Mathlib.Decide.{dec_lt}
use lib.ListN.{length, get_or, drop, get_or-append, get_or-eq_default, length-drop}
use lib.Seq.{take-append-le, drop-append-le}
use lib.Dec.{ltb, eqb}
use borrow.Author.Tests.{ltb-false, lt-ltb}
use Rattle.frames.specs.Scan.{Decision, Skip, Take, Wait}
use Rattle.frames.specs.Framing.{Lawful}
use Rattle.frames.specs.Rtcm.{Why, OfUbx, NotB5, No62, TooLong, BadSums, Kind, Ubx}
use Rattle.frames.specs.Ubx.{ubx, is_b5, is62, is_long_ubx, payload, same_sums, sent_sums, own_sums, by_sums}

-- need and verdict, by what is known so far: the length; 62 before it; B5 before that
abbrev need_long : Bool → List ℕ → ℕ
need_long l s = cond l 6 (payload s + 8)

abbrev need62 : Bool → List ℕ → ℕ
need62 m s = cond m (need_long (is_long_ubx s) s) 2

abbrev need_b5 : Bool → List ℕ → ℕ
need_b5 b s = cond b (need62 (is62 s) s) 1

abbrev says_long : Bool → List ℕ → Decision Why Kind
says_long l s = cond l (Skip (OfUbx (TooLong (payload s)))) (by_sums (payload s) (sent_sums s) (own_sums s))

abbrev says62 : Bool → List ℕ → Decision Why Kind
says62 m s = cond m (says_long (is_long_ubx s) s) (Skip (OfUbx No62))

abbrev says_b5 : Bool → List ℕ → Decision Why Kind
says_b5 b s = cond b (says62 (is62 s) s) (Skip (OfUbx NotB5))

-- the verdict, by all three at once
abbrev says_by : Bool → Bool → Bool → List ℕ → Decision Why Kind
says_by b m l s = cond b (cond m (says_long l s) (Skip (OfUbx No62))) (Skip (OfUbx NotB5))

-- ---- how many bytes are needed

least_long : (l : Bool) (s : List ℕ) → 6 ≤ need_long l s
least_long true s = omega arith
least_long false s = omega arith

least_62 : (m : Bool) (s : List ℕ) → 2 ≤ need62 m s
least_62 true s = omega (arith, least_long (is_long_ubx s) s)
least_62 false s = omega arith

least_B5 : (b : Bool) (s : List ℕ) → 1 ≤ need_b5 b s
least_B5 true s = omega (arith, least_62 (is62 s) s)
least_B5 false s = omega arith

most_long : (s : List ℕ) (l : Bool) → is_long_ubx s ≡ l → need_long l s ≤ 1029
most_long s true e = omega arith
most_long s false e = omega (arith, ltb-false 1021 (payload s) e)

most_62 : (m : Bool) (s : List ℕ) → need62 m s ≤ 1029
most_62 true s = most_long s (is_long_ubx s) refl
most_62 false s = omega arith

most_B5 : (b : Bool) (s : List ℕ) → need_b5 b s ≤ 1029
most_B5 true s = most_62 (is62 s) s
most_B5 false s = omega arith

-- ---- what follows changes nothing

module _ (s t : List ℕ) where
  b5_stays : 1 ≤ length s → get_or (s ++ t) 0 0 ≡ get_or s 0 0
  b5_stays h = get_or-append s t 0 0 h

  six_two_stays : 2 ≤ length s → get_or (s ++ t) 1 0 ≡ get_or s 1 0
  six_two_stays h = get_or-append s t 0 1 h

  payload_stays : 6 ≤ length s → payload (s ++ t) ≡ payload s
  payload_stays h = rw (get_or-append s t 255 4 (omega arith), get_or-append s t 255 5 (omega arith))

  same_long : need_long (is_long_ubx s) s ≤ length s → need_long (is_long_ubx (s ++ t)) (s ++ t) ≡ need_long (is_long_ubx s) s
  same_long h = rw (payload_stays (omega (arith, least_long (is_long_ubx s) s)))

  same_62 : (m : Bool) → need62 m s ≤ length s → need62 m (s ++ t) ≡ need62 m s
  same_62 true h = same_long h
  same_62 false h = refl

  same_B5 : (b : Bool) → need_b5 b s ≤ length s → need_b5 b (s ++ t) ≡ need_b5 b s
  same_B5 true h = rw (six_two_stays (omega (arith, least_62 (is62 s) s))) (same_62 (is62 s) h)
  same_B5 false h = refl

  prompt_long : need_long (is_long_ubx (s ++ t)) (s ++ t) ≤ length s → need_long (is_long_ubx s) s ≤ length s
  prompt_long h = rw (payload_stays (omega (arith, least_long (is_long_ubx (s ++ t)) (s ++ t)))) at h

  prompt_62 : (m : Bool) → need62 m (s ++ t) ≤ length s → need62 m s ≤ length s
  prompt_62 true h = prompt_long h
  prompt_62 false h = h

  prompt_B5 : (b : Bool) → need_b5 b (s ++ t) ≤ length s → need_b5 b s ≤ length s
  prompt_B5 true h = prompt_62 (is62 s) (rw (six_two_stays (omega (arith, least_62 (is62 (s ++ t)) (s ++ t)))) at h)
  prompt_B5 false h = h

  -- the sums are those of the frame's own bytes
  module _ (h : payload s + 8 ≤ length s) where
    own_stays : own_sums (s ++ t) ≡ own_sums s
    own_stays =
        rw (payload_stays (omega arith), drop-append-le 2 s t (omega arith), take-append-le (payload s + 4) (drop 2 s) t (rw length-drop (omega arith)))

    sent_stays : sent_sums (s ++ t) ≡ sent_sums s
    sent_stays = rw (payload_stays (omega arith), get_or-append s t 0 (payload s + 6) (omega arith), get_or-append s t 0 (payload s + 7) (omega arith))

  says_long_lem : (l : Bool) → need_long l s ≤ length s → says_long l (s ++ t) ≡ says_long l s
  says_long_lem true h = rw (payload_stays h)
  says_long_lem false h = λ i. by_sums (payload_stays (omega arith) i) (sent_stays h i) (own_stays h i)

  says_62 : (m : Bool) → need62 m s ≤ length s → says62 m (s ++ t) ≡ says62 m s
  says_62 true h = ap (λ n. says_long (ltb 1021 n) (s ++ t)) (payload_stays (omega (arith, least_long (is_long_ubx s) s))) ∙ says_long_lem (is_long_ubx s) h
  says_62 false h = refl

  says_B5 : (b : Bool) → need_b5 b s ≤ length s → says_b5 b (s ++ t) ≡ says_b5 b s
  says_B5 true h = rw (six_two_stays (omega (arith, least_62 (is62 s) s))) (says_62 (is62 s) h)
  says_B5 false h = refl

-- ---- a frame is what was needed, and no verdict waits

takes_sums : (c : Bool) (m : ℕ) (w : Why) (k : Kind) (n : ℕ) → cond c (Take Ubx (m + 8)) (Skip w) ≡ Take k n → n ≡ m + 8
takes_sums true m w k n e = cc
takes_sums false m w k n e = cc

takes : (b m l : Bool) (s : List ℕ) (k : Kind) (n : ℕ) → says_by b m l s ≡ Take k n → n ≡ cond b (cond m (need_long l s) 2) 1
takes true true true s k n e = cc
takes true true false s k n e = takes_sums (same_sums (sent_sums s) (own_sums s)) (payload s) (OfUbx (BadSums (sent_sums s) (own_sums s))) k n e
takes true false l s k n e = cc
takes false m l s k n e = cc

sums_decide : (c : Bool) (m : ℕ) (w : Why) → cond c (Take Ubx (m + 8)) (Skip w) ≡ Wait → ⊥
sums_decide true m w e = let z : ◌≡◌ {A = ℕ} 0 1 = cc in omega arith
sums_decide false m w e = let z : ◌≡◌ {A = ℕ} 0 1 = cc in omega arith

decides : (b m l : Bool) (s : List ℕ) → says_by b m l s ≡ Wait → ⊥
decides true true true s e = let z : ◌≡◌ {A = ℕ} 0 1 = cc in omega arith
decides true true false s e = sums_decide (same_sums (sent_sums s) (own_sums s)) (payload s) (OfUbx (BadSums (sent_sums s) (own_sums s))) e
decides true false l s e = let z : ◌≡◌ {A = ℕ} 0 1 = cc in omega arith
decides false m l s e = let z : ◌≡◌ {A = ℕ} 0 1 = cc in omega arith

pub ubx_lawful : Lawful ubx
unfolding ubx
ubx_lawful =
    record {
      needs = λ s. least_B5 (is_b5 s) s;
      most = λ s. most_B5 (is_b5 s) s;
      same_need = λ s t h. rw (b5_stays s t (omega (arith, least_B5 (is_b5 s) s))) (same_B5 s t (is_b5 s) h);
      same_verdict = λ s t h. rw (b5_stays s t (omega (arith, least_B5 (is_b5 s) s))) (says_B5 s t (is_b5 s) h);
      prompt = λ s t h. prompt_B5 s t (is_b5 s) (rw (b5_stays s t (omega (arith, least_B5 (is_b5 (s ++ t)) (s ++ t)))) at h);
      taken = λ s k n e. takes (is_b5 s) (is62 s) (is_long_ubx s) s k n e;
      decided = λ s e. decides (is_b5 s) (is62 s) (is_long_ubx s) s e;
    }

-- ---- no more bytes are asked for than will be needed

more_long : (s t : List ℕ) → Dec (length s < 6) → need_long (is_long_ubx s) s ≤ need_long (is_long_ubx (s ++ t)) (s ++ t)
more_long s t (yes h) =
    let last : get_or s 5 255 ≡ 255 = get_or-eq_default s 255 (omega arith) in
    rw (lt-ltb 1021 (payload s) (omega arith)) (least_long (is_long_ubx (s ++ t)) (s ++ t))
more_long s t (no h) = rw (payload_stays s t (omega arith)) (omega arith)

more_62 : (m : Bool) (s t : List ℕ) → need62 m s ≤ need62 m (s ++ t)
more_62 true s t = more_long s t (dec_lt (length s) 6)
more_62 false s t = omega arith

more_B5 : (b : Bool) (x : ℕ) (xs t : List ℕ) → need_b5 b (x ∷ xs) ≤ need_b5 b (x ∷ (xs ++ t))
more_B5 true x [] t = least_62 (is62 (x ∷ t)) (x ∷ t)
more_B5 true x (y ∷ ys) t = more_62 (eqb y 0x62) (x ∷ y ∷ ys) t
more_B5 false x xs t = omega arith

-- BYTES THAT FOLLOW never lower what UBX needs: it asks for no byte that could turn out not to be needed.
pub only_more : (s t : List ℕ) → ubx.need s ≤ ubx.need (s ++ t)
unfolding ubx
only_more [] t = least_B5 (is_b5 t) t
only_more (x ∷ xs) t = more_B5 (eqb x 0xB5) x xs t
