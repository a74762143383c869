-- Why a byte is given up, by its own value and by the frame check. Assumes nothing.
use mathlib.Core.Path.{◌≡◌, refl, sym, ap, ◌∙◌}
use mathlib.Core.List.{List, ◌∷◌}
use Prim.Native.Nat.{ℕ, suc, ◌+◌, ◌-◌, ◌≤◌, ◌<◌}
use native.Mathlib.Omega.{arith}
use native.Mathlib.Decide.{ℕ_discrete, dec_lt}
use lib.ListN.{length, get_or, take, drop, length-drop}
use lib.Seq.{drop-cons, drop-drop}
use borrow.Author.Tests.{le-leb, lt-leb, eq-eqb, ne_eqb}
use Rattle.bits.specs.Told.{Told, Accepted, size, bad_check, incomplete, OneToOne}
use Rattle.std.specs.Prelude.{Result, Err}
use Rattle.bits.specs.declared.refusal.Refusal.{Refusal}
use Rattle.bits.specs.declared.refusal.Refusal.TheVariants as F
use Rattle.frames.specs.declared.frame.Frame.{Frame}
use Rattle.frames.specs.Answers.{told_checked}
use Rattle.bits.proofs.RefusalLaws.{told_one_to_one}
use Rattle.frames.proofs.ToldLaws.{injective, checked_one_to_one}
use Rattle.frames.specs.Scan.{Skip}
use Rattle.frames.specs.Framing.{decide}
use Rattle.frames.specs.Frame.{data_length, sent_sum, own_sum, Whole, check}
use Rattle.frames.specs.Rtcm.{Why, NotD3, BadCheck, OfUbx, rtcm, at_d3, decide_at}
use Rattle.frames.specs.Modes.{framing_of}
use Rattle.frames.specs.Close.{Judged, Unfinished, final, closing}
use Rattle.frames.proofs.FrameLaws.{too_few, is_cut, sums_differ, sums_agree}
use Rattle.frames.proofs.RtcmLaws.{decides_at}
use Rattle.frames.proofs.StandLaws.{Tells, reason_tells}
use Rattle.frames.proofs.FateLaws.{checked_all}
use Rattle.closing.specs.Reason.{Ruled, GivenUp, Starts, ruled, ruled_at, known_ruled, told_ruled, Sort, NoD3, Wrong, WrongUbx, sort_of, by_byte, told_skip}
use Rattle.closing.specs.declared.reason.Ruled as code
use Rattle.closing.specs.declared.reason.Ruled.TheVariants as R
use Rattle.closing.specs.declared.reason.Skip as skips
use Rattle.closing.specs.declared.reason.Skip.TheVariants as S

-- what the check of a D3 refuses with no bad checksum is incomplete
module _ (t : List ℕ) (d : get_or t 0 0 ≡ 0xD3) {r : Result Frame Refusal} (told : told_checked r ≡ check t) {e : Refusal} (is : r ≡ Err e) (other : (a b : ℕ) → e ≡ F.BadCheck a b → ⊥) where
  differs : {a b : ℕ} → bad_check a b ≡ check t → ⊥
  differs {a} {b} g =
      let same : ◌≡◌ {A = Result Frame Refusal} (Err e) (Err (F.BadCheck a b)) = checked_one_to_one.same (sym (ap told_checked is) ∙ told ∙ sym g) in
      let refusal : e ≡ F.BadCheck a b = cc in
      other a b refusal

  good_too : {w : Whole} → Accepted w ≡ check t → ⊥
  good_too {w} g =
      let both : ◌≡◌ {A = Told Whole} (told_checked (Err e)) (Accepted w) = sym (ap told_checked is) ∙ told ∙ sym g in
      let z : ◌≡◌ {A = ℕ} 0 1 = cc in omega arith

  pub is_incomplete : told_checked r ≡ incomplete
  is_incomplete = few (dec_lt (length t) 6)
    where
      differ : 6 ≤ length t → data_length t + 6 ≤ length t → Dec (own_sum t ≡ sent_sum t) → told_checked r ≡ incomplete
      differ h l (yes c) = absurd (good_too (sums_agree t h d l c))
      differ h l (no c) = absurd (differs (sums_differ t h d l c))

      cut : 6 ≤ length t → Dec (length t < data_length t + 6) → told_checked r ≡ incomplete
      cut h (yes l) = told ∙ sym (is_cut t h d l)
      cut h (no l) = differ h (omega arith) (ℕ_discrete (own_sum t) (sent_sum t))

      few : Dec (length t < 6) → told_checked r ≡ incomplete
      few (yes h) = told ∙ sym (too_few t h)
      few (no h) = cut (omega arith) (dec_lt (length t) (data_length t + 6))

-- ---- which case of the definition holds

module _ (s : List ℕ) (q : ℕ) where
  pub past_end : length s ≤ q → size ≡ ruled_at s q
  unfolding ruled_at
  past_end l = rw (le-leb (length s) q l)

  pub is_ruled : q < length s → Accepted (ruled (closing (decide rtcm) (drop q s))) ≡ ruled_at s q
  unfolding ruled_at
  is_ruled l = rw (lt-leb (length s) q l)

  module _ (l : q < length s) where
    front : drop q s ≡ get_or s q 0 ∷ drop (suc q) s
    front = drop-cons s q 0 l

    decided : decide rtcm (drop q s) ≡ decide_at (get_or s q 0 ∷ drop (suc q) s)
    decided = ap (decide rtcm) front ∙ decides_at (get_or s q 0 ∷ drop (suc q) s)

    pub is_not_d3 : (get_or s q 0 ≡ 0xD3 → ⊥) → Accepted (GivenUp (Judged NotD3)) ≡ ruled_at s q
    is_not_d3 n =
        let e : decide_at (get_or s q 0 ∷ drop (suc q) s) ≡ Skip NotD3 = rw (ne_eqb (get_or s q 0) 0xD3 n) in
        ap (λ z. Accepted (ruled (final z))) (sym (decided ∙ e)) ∙ is_ruled l

    module _ (d : get_or s q 0 ≡ 0xD3) {r : Told Whole} (c : r ≡ check (take (length s - q) (drop q s))) where
      checked : r ≡ check (get_or s q 0 ∷ drop (suc q) s)
      checked = checked_all s q c ∙ ap check front

      -- at a D3 the frame check rules
      pub by_check : Accepted (ruled (final (at_d3 r))) ≡ ruled_at s q
      by_check =
          let e : decide_at (get_or s q 0 ∷ drop (suc q) s) ≡ at_d3 (check (get_or s q 0 ∷ drop (suc q) s)) = rw (eq-eqb (get_or s q 0) 0xD3 d) in
          ap (λ z. Accepted (ruled (final z))) (ap at_d3 checked ∙ sym (decided ∙ e)) ∙ is_ruled l

    -- and refuses with no bad checksum where bytes are missing
    pub by_missing : {r : Result Frame Refusal} → told_checked r ≡ check (take (length s - q) (drop q s)) → get_or s q 0 ≡ 0xD3 → {e : Refusal} → r ≡ Err e
        → ((a b : ℕ) → e ≡ F.BadCheck a b → ⊥) → Accepted (GivenUp Unfinished) ≡ ruled_at s q
    by_missing told d is other =
        ap (λ z. Accepted (ruled (final (at_d3 z)))) (sym (is_incomplete (get_or s q 0 ∷ drop (suc q) s) d (checked d told) is other)) ∙ by_check d told

-- the bytes from a place on tell the same of a byte as all bytes do
pub ruled_behind : (s : List ℕ) (n i : ℕ) → n ≤ length s → ruled_at (drop n s) i ≡ ruled_at s (n + i)
ruled_behind s n i h = go (dec_lt (n + i) (length s))
  where
    d : drop i (drop n s) ≡ drop (n + i) s
    d = drop-drop i n s

    go : Dec (n + i < length s) → ruled_at (drop n s) i ≡ ruled_at s (n + i)
    go (yes l) = sym (is_ruled (drop n s) i (rw length-drop (omega arith))) ∙ ap (λ t. Accepted (ruled (closing (decide rtcm) t))) d ∙ is_ruled s (n + i) l
    go (no l) = sym (past_end (drop n s) i (rw length-drop (omega arith))) ∙ past_end s (n + i) (omega arith)

-- ---- in feeding the byte tells

module _ (mode x : ℕ) where
  no_start : (x ≡ 0xD3 → ⊥) → (x ≡ 0xB5 → mode ≡ 0) → Dec (mode ≡ 0) → NoD3 ≡ by_byte mode x
  no_start d b (yes m) = rw (ne_eqb x 0xD3 d, eq-eqb mode 0 m)
  no_start d b (no m) = rw (ne_eqb x 0xD3 d, ne_eqb mode 0 m, ne_eqb x 0xB5 (λ e. m (b e)))

  by_tells : (w : Why) → Tells mode (Judged w) x → sort_of w ≡ by_byte mode x
  by_tells NotD3 t = no_start t.0 t.1 (ℕ_discrete mode 0)
  by_tells (BadCheck a b) t = rw (eq-eqb x 0xD3 t)
  by_tells (OfUbx u) t = rw (ne_eqb x 0xD3 (λ e. omega (arith, t.0)), ne_eqb mode 0 t.1, eq-eqb x 0xB5 t.0)

  -- A BYTE THAT FEEDING SKIPS tells by itself, in every mode, whether it starts no frame, had a bad check or starts no good UBX frame.
  pub byte_tells : (xs : List ℕ) (w : Why) → decide (framing_of mode) (x ∷ xs) ≡ Skip w → sort_of w ≡ by_byte mode x
  byte_tells xs w e = by_tells w (reason_tells mode x (Judged w) xs (ap final e))

pub is_wrong : (x : ℕ) → x ≡ 0xD3 → Wrong ≡ by_byte 0 x
is_wrong x e = rw (eq-eqb x 0xD3 e)

pub is_no_d3 : (x : ℕ) → (x ≡ 0xD3 → ⊥) → NoD3 ≡ by_byte 0 x
is_no_d3 x n = rw (ne_eqb x 0xD3 n)

-- ---- an answer of the code is fixed by what it tells

of_ruled : Ruled → code.Ruled
of_ruled (GivenUp (Judged NotD3)) = R.NotD3
of_ruled (GivenUp (Judged (BadCheck a b))) = R.BadCheck a b
of_ruled (GivenUp (Judged (OfUbx u))) = R.NotD3
of_ruled (GivenUp Unfinished) = R.Unfinished
of_ruled (Starts n) = R.Frame n

ruled_again : (x : code.Ruled) → of_ruled (known_ruled x) ≡ x
unfolding of_ruled
ruled_again R.NotD3 = refl
ruled_again (R.BadCheck a b) = refl
ruled_again R.Unfinished = refl
ruled_again (R.Frame n) = refl

pub ruled_one_to_one : OneToOne told_ruled
ruled_one_to_one = told_one_to_one known_ruled (injective known_ruled of_ruled ruled_again)

-- two answers that the statement of `reason::at` allows are equal
pub only_ruled : (s : List ℕ) (q : ℕ) {x y : Result code.Ruled Refusal} → told_ruled x ≡ ruled_at s q → told_ruled y ≡ ruled_at s q → x ≡ y
only_ruled s q e f = ruled_one_to_one.same (e ∙ sym f)

skip_of : Sort → skips.Skip
skip_of NoD3 = S.NotD3
skip_of Wrong = S.BadCheck
skip_of WrongUbx = S.NotD3

skip_again : (x : skips.Skip) → skip_of (told_skip x) ≡ x
unfolding skip_of
skip_again S.NotD3 = refl
skip_again S.BadCheck = refl

-- and so are two that the statement of `reason::skipped` allows
pub only_skip : (n : ℕ) {x y : skips.Skip} → told_skip x ≡ by_byte 0 n → told_skip y ≡ by_byte 0 n → x ≡ y
only_skip n {x} {y} e f = sym (skip_again x) ∙ ap skip_of (e ∙ sym f) ∙ skip_again y
