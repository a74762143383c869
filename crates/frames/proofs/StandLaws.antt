-- Each item of a scan is what was decided at its place; and in every mode each reason is told by the byte that was given up. Assumes nothing.
use mathlib.Core.Path.{◌≡◌, refl, sym, ap, ◌∙◌, subst}
use mathlib.Core.Bool.{Bool, true, false, cond}
use mathlib.Core.List.{List, [], ◌∷◌}
use Prim.Native.Nat.{ℕ, zero, suc, ◌+◌, ◌≤◌}
use native.Mathlib.Nat.{le_of_suc-le-suc, not-suc-le-zero}
use native.Mathlib.Omega.{arith}
use native.Mathlib.Decide.{ℕ_discrete}
use lib.ListN.{length, take, drop}
use lib.Seq.{length-take-le}
use lib.Dec.{leb, eqb}
use borrow.Author.Tests.{le-leb, eq-eqb, ne_eqb, eqb-true, eqb-false}
use Rattle.frames.specs.Scan.{Decision, Skip, Take, Wait, Item, Skipped, Framed, step, scan_past, scan}
use Rattle.frames.specs.Framing.{decide}
use Rattle.frames.specs.Frame.{data_length, sent_sum, own_sum}
use Rattle.frames.specs.Rtcm.{Why, NotD3, BadCheck, OfUbx, No62, TooLong, BadSums, Kind, Rtcm, Ubx, rtcm}
use Rattle.frames.specs.Ubx.{is62, is_long_ubx, payload, sent_sums, own_sums, same_sums, ubx}
use Rattle.frames.specs.Either.{either}
use Rattle.frames.specs.Modes.{both, framing_of}
use Rattle.frames.specs.Close.{Gave, Judged, Unfinished, final, closing}
use Rattle.frames.proofs.FramingLaws.{Whole}

-- ---- items stand where they were decided

module _ {W K : Type 0} (d : List ℕ → Decision W K) where
  -- each item, from the front of s on: the first byte was skipped for that reason, or that many bytes were taken as that kind
  abbrev pub Stands : List ℕ → List (Item W K) → Type 0
  Stands s [] = Unit {0}
  Stands s (Skipped w x ∷ is) = (d s ≡ Skip w) × (take 1 s ≡ x ∷ []) × Stands (drop 1 s) is
  Stands s (Framed k f ∷ is) = (d s ≡ Take k (length f)) × (take (length f) s ≡ f) × Stands (drop (length f) s) is

  module _ (whole : Whole d) where
    stands_step : (x : ℕ) (xs : List ℕ) → ((m : ℕ) → m ≤ length xs → Stands (drop m xs) (scan_past d m xs).items)
        → (q : Decision W K) → d (x ∷ xs) ≡ q → Stands (x ∷ xs) (step q x xs (λ n. scan_past d n xs)).items
    stands_step x xs ih (Skip w) e = (e, refl, ih 0 (omega arith))
    stands_step x xs ih (Take k zero) e = absurd (not-suc-le-zero (whole (x ∷ xs) k 0 e).0)
    stands_step x xs ih (Take k (suc n)) e =
        let p : (1 ≤ suc n) × (suc n ≤ suc (length xs)) = whole (x ∷ xs) k (suc n) e in
        let l : length (take (suc n) (x ∷ xs)) ≡ suc n = length-take-le (suc n) (x ∷ xs) p.1 in
        (e ∙ ap (Take k) (sym l), ap (λ m. take m (x ∷ xs)) l, subst (λ m. Stands (drop m (x ∷ xs)) (scan_past d n xs).items) (sym l) (ih n (le_of_suc-le-suc p.1)))
    stands_step x xs ih Wait e = tt

    stands_past : (m : ℕ) (s : List ℕ) → m ≤ length s → Stands (drop m s) (scan_past d m s).items
    stands_past zero [] h = tt
    stands_past (suc m) [] h = tt
    stands_past (suc m) (x ∷ xs) h = stands_past m xs (le_of_suc-le-suc h)
    stands_past zero (x ∷ xs) h = stands_step x xs (λ m h'. stands_past m xs h') (d (x ∷ xs)) refl

    -- EACH ITEM of a scan is what was decided at its place, of the bytes from there on.
    pub stands : (s : List ℕ) → Stands s (scan d s).items
    stands s = stands_past 0 s (omega arith)

-- ---- the reasons

-- What the byte that was given up is, in a mode. A D3 starts a frame in every mode, a B5 where the mode has UBX.
abbrev pub Tells : ℕ → Gave Why → ℕ → Type 0
Tells mode (Judged NotD3) x = (x ≡ 0xD3 → ⊥) × (x ≡ 0xB5 → mode ≡ 0)
Tells mode (Judged (BadCheck sent computed)) x = x ≡ 0xD3
Tells mode (Judged (OfUbx u)) x = (x ≡ 0xB5) × (mode ≡ 0 → ⊥)
Tells mode Unfinished x = (x ≡ 0xD3 → ⊥) → (x ≡ 0xB5) × (mode ≡ 0 → ⊥)

module _ (mode x : ℕ) (w : Gave Why) where
  of_d3 : (l c : Bool) (n : ℕ) (a b : ℕ) → x ≡ 0xD3 → final (cond l (cond c (Take Rtcm n) (Skip (BadCheck a b))) Wait) ≡ Skip w → Tells mode w x
  of_d3 true true n a b d e = let z : ◌≡◌ {A = ℕ} 0 1 = cc in absurd (omega arith)
  of_d3 true false n a b d e = let y : Judged (BadCheck a b) ≡ w = cc in subst (λ w. Tells mode w x) y d
  of_d3 false c n a b d e = let y : Unfinished ≡ w = cc in subst (λ w. Tells mode w x) y (λ n. absurd (n d))

  by_rtcm : (xs : List ℕ) → (x ≡ 0xB5 → mode ≡ 0) → closing (decide rtcm) (x ∷ xs) ≡ Skip w → Tells mode w x
  unfolding rtcm
  by_rtcm xs o e = go (eqb x 0xD3) refl e
    where
      go : (b : Bool) → eqb x 0xD3 ≡ b
          → final (cond (leb (cond b (data_length (x ∷ xs) + 6) 1) (suc (length xs)))
          (cond b (cond (eqb (own_sum (x ∷ xs)) (sent_sum (x ∷ xs))) (Take Rtcm (data_length (x ∷ xs) + 6)) (Skip (BadCheck (sent_sum (x ∷ xs)) (own_sum (x ∷ xs))))) (Skip NotD3)) Wait) ≡ Skip w
          → Tells mode w x
      go true u y =
          of_d3 (leb (data_length (x ∷ xs) + 6) (suc (length xs))) (eqb (own_sum (x ∷ xs)) (sent_sum (x ∷ xs))) (data_length (x ∷ xs) + 6) (sent_sum (x ∷ xs)) (own_sum (x ∷ xs)) (eqb-true x 0xD3 u) y
      go false u y =
          let v : ◌≡◌ {A = Decision (Gave Why) Kind} (Skip (Judged NotD3)) (Skip w) = rw (le-leb 1 (suc (length xs)) (omega arith)) at y in
          let z : Judged NotD3 ≡ w = cc in
          subst (λ w. Tells mode w x) z (eqb-false x 0xD3 u, o)

  module _ (b5 : x ≡ 0xB5) (n : mode ≡ 0 → ⊥) where
    of_b5 : (l c g s : Bool) (p m : ℕ) (sent own : ℕ × ℕ)
        → final (cond l (cond c (cond g (Skip (OfUbx (TooLong p))) (cond s (Take Ubx m) (Skip (OfUbx (BadSums sent own))))) (Skip (OfUbx No62))) Wait) ≡ Skip w → Tells mode w x
    of_b5 false c g s p m sent own e = let y : Unfinished ≡ w = cc in subst (λ w. Tells mode w x) y (λ z. (b5, n))
    of_b5 true false g s p m sent own e = let y : Judged (OfUbx No62) ≡ w = cc in subst (λ w. Tells mode w x) y (b5, n)
    of_b5 true true true s p m sent own e = let y : Judged (OfUbx (TooLong p)) ≡ w = cc in subst (λ w. Tells mode w x) y (b5, n)
    of_b5 true true false true p m sent own e = let z : ◌≡◌ {A = ℕ} 0 1 = cc in absurd (omega arith)
    of_b5 true true false false p m sent own e = let y : Judged (OfUbx (BadSums sent own)) ≡ w = cc in subst (λ w. Tells mode w x) y (b5, n)

    by_ubx : (xs : List ℕ) → closing (decide ubx) (x ∷ xs) ≡ Skip w → Tells mode w x
    unfolding ubx
    by_ubx xs e =
        of_b5 (leb (cond (is62 (x ∷ xs)) (cond (is_long_ubx (x ∷ xs)) 6 (payload (x ∷ xs) + 8)) 2) (suc (length xs))) (is62 (x ∷ xs)) (is_long_ubx (x ∷ xs)) (same_sums (sent_sums (x ∷ xs)) (own_sums (x ∷ xs)))
        (payload (x ∷ xs)) (payload (x ∷ xs) + 8) (sent_sums (x ∷ xs)) (own_sums (x ∷ xs)) (rw (eq-eqb x 0xB5 b5) at e)

  both_tells : (mode ≡ 0 → ⊥) → (xs : List ℕ) → closing (decide both) (x ∷ xs) ≡ Skip w → Tells mode w x
  unfolding either
  both_tells n xs e = go (ℕ_discrete x 0xB5)
    where
      go : Dec (x ≡ 0xB5) → Tells mode w x
      go (yes b) = by_ubx b n xs (rw (eq-eqb x 0xB5 b) at e)
      go (no b) = by_rtcm xs (λ z. absurd (b z)) (rw (ne_eqb x 0xB5 b) at e)

  -- A BYTE GIVEN UP tells by itself whether it starts no frame, is a D3 or is a B5; so does why it was given up.
  pub reason_tells : (xs : List ℕ) → closing (decide (framing_of mode)) (x ∷ xs) ≡ Skip w → Tells mode w x
  reason_tells xs e = go (ℕ_discrete mode 0)
    where
      go : Dec (mode ≡ 0) → Tells mode w x
      go (yes m) = by_rtcm xs (λ z. m) (rw (eq-eqb mode 0 m) at e)
      go (no m) = both_tells m xs (rw (ne_eqb mode 0 m) at e)
