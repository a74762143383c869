-- A format so many times is faithful where it is. Assumes nothing.
use mathlib.Core.Path.{◌≡◌, refl, sym, ap, subst, ◌∙◌}
use mathlib.Core.Bool.{true, ◌&&◌}
use mathlib.Core.List.{List, [], ◌∷◌, ◌++◌, append_assoc}
use Prim.Native.Nat.{ℕ, zero, suc, ◌+◌, ◌*◌, ◌≤◌}
use native.Mathlib.Nat.{add-zero, zero-mul, suc-mul}
use native.Mathlib.Omega.{arith}
use borrow.Author.Tests.{eqb-true, eq-eqb}
use lib.ListN.{length}
use lib.Dec.{eqb}
use Rattle.bits.specs.Told.{Accepted, Refused, and_then}
use Rattle.bits.specs.Field.{Reading, reading}
use Rattle.bits.specs.Fields.{Field, total, Holds, Fit}
use Rattle.bits.proofs.FieldsLaws.{total_none, holds_none, fit_none, total_append, holds_append, fit_append}
use Rattle.formats.specs.Format.{Format, times, fit_each, fields_each, read_each}
use Rattle.formats.specs.Faithful.{Stands, Faithful, Cut, OnlyShort}
use Rattle.formats.proofs.NextLaws.{then_accepted, cut_then, both_true, true_both, next_stands}

module _ {A : Type 0} (F : Format A) where
  -- a list of n that fits, and one of n + 1 by its first and the rest
  fits_none : (xs : List A) → (times 0 F).fits xs ≡ true → xs ≡ []
  fits_none [] f = refl
  fits_none (x ∷ xs) f = let e = eqb-true (length (x ∷ xs)) 0 (both_true (eqb (length (x ∷ xs)) 0) (fit_each F (x ∷ xs)) f).0 in absurd (omega arith)

  fits_rest : (n : ℕ) (x : A) (xs : List A) → (times (suc n) F).fits (x ∷ xs) ≡ true → (F.fits x ≡ true) × ((times n F).fits xs ≡ true)
  unfolding fit_each
  fits_rest n x xs f =
      let b = both_true (eqb (length (x ∷ xs)) (suc n)) (F.fits x && fit_each F xs) f in
      let c = both_true (F.fits x) (fit_each F xs) b.1 in
      let e = eqb-true (length (x ∷ xs)) (suc n) b.0 in
      (c.0, true_both (eqb (length xs) n) (fit_each F xs) (eq-eqb (length xs) n (omega arith)) c.1)

  fits_more : (n : ℕ) (x : A) (xs : List A) → F.fits x ≡ true → (times n F).fits xs ≡ true → (times (suc n) F).fits (x ∷ xs) ≡ true
  unfolding fit_each
  fits_more n x xs f g =
      let b = both_true (eqb (length xs) n) (fit_each F xs) g in
      let e = eqb-true (length xs) n b.0 in
      true_both (eqb (length (x ∷ xs)) (suc n)) (F.fits x && fit_each F xs) (eq-eqb (length (x ∷ xs)) (suc n) (omega arith))
      (true_both (F.fits x) (fit_each F xs) f b.1)

  not_none : (n : ℕ) → (times (suc n) F).fits [] ≡ true → ⊥
  not_none n f = let e = eqb-true (length {A = A} []) (suc n) (both_true (eqb (length {A = A} []) (suc n)) (fit_each F []) f).0 in omega arith

  -- the fields of one more
  pub fields_next : (x : A) (xs : List A) → fields_each F (x ∷ xs) ≡ F.fields x ++ fields_each F xs
  unfolding fields_each
  fields_next x xs = refl

  pub fields_none : fields_each F [] ≡ []
  unfolding fields_each
  fields_none = refl

  -- the fields of two lists, one behind the other
  pub fields_append : (xs ys : List A) → fields_each F (xs ++ ys) ≡ fields_each F xs ++ fields_each F ys
  unfolding fields_each
  fields_append [] ys = refl
  fields_append (x ∷ xs) ys = ap (λ (fs : List Field). F.fields x ++ fs) (fields_append xs ys) ∙ sym (append_assoc (F.fields x) (fields_each F xs) (fields_each F ys))

  -- where each has w bits
  pub total_each : (w : ℕ) → ((x : A) → total (F.fields x) ≡ w) → (xs : List A) → total (fields_each F xs) ≡ length xs * w
  unfolding fields_each
  total_each w e [] = total_none ∙ sym (zero-mul w)
  total_each w e (x ∷ xs) = omega (arith, total_append (F.fields x) (fields_each F xs), e x, total_each w e xs, suc-mul (length xs) w)

  -- one more fits
  pub fit_each_lem : (x : A) (xs : List A) → F.fits x ≡ true → fit_each F xs ≡ true → fit_each F (x ∷ xs) ≡ true
  unfolding fit_each
  fit_each_lem x xs f g = true_both (F.fits x) (fit_each F xs) f g

  pub fit_each_none : fit_each F [] ≡ true
  unfolding fit_each
  fit_each_none = refl

  pub fit_each_append : (xs ys : List A) → fit_each F xs ≡ true → fit_each F ys ≡ true → fit_each F (xs ++ ys) ≡ true
  unfolding fit_each
  fit_each_append [] ys f g = g
  fit_each_append (x ∷ xs) ys f g =
      let b = both_true (F.fits x) (fit_each F xs) f in
      true_both (F.fits x) (fit_each F (xs ++ ys)) b.0 (fit_each_append xs ys b.1 g)

  pub each_fits : (x : A) (xs : List A) → fit_each F (x ∷ xs) ≡ true → (F.fits x ≡ true) × (fit_each F xs ≡ true)
  unfolding fit_each
  each_fits x xs e = both_true (F.fits x) (fit_each F xs) e

  -- as a loop reads: none, one more, one that is refused, and one behind it that is
  pub each_none : (s : List ℕ) (p : ℕ) → read_each F 0 s p ≡ Accepted (reading [] p)
  unfolding read_each
  each_none s p = refl

  pub each_next : (n : ℕ) (s : List ℕ) (p : ℕ)
      → read_each F (suc n) s p ≡ and_then (F.reads s p) (λ x. and_then (read_each F n s x.next) (λ xs. Accepted (reading (x.value ∷ xs.value) xs.next)))
  unfolding read_each
  each_next n s p = refl

  pub each_more : (n : ℕ) (s : List ℕ) {p q r : ℕ} {x : A} {xs : List A} → F.reads s p ≡ Accepted (reading x q) → read_each F n s q ≡ Accepted (reading xs r)
      → read_each F (suc n) s p ≡ Accepted (reading (x ∷ xs) r)
  unfolding read_each
  each_more n s {p} {q} {r} {x} {xs} d e = rw d (rw e)

  pub each_refused : (n : ℕ) (s : List ℕ) {p m : ℕ} {carried : List ℕ} → F.reads s p ≡ Refused m carried → read_each F (suc n) s p ≡ Refused m carried
  unfolding read_each
  each_refused n s d = rw d

  pub each_later : (n : ℕ) (s : List ℕ) {p q m : ℕ} {x : A} {carried : List ℕ} → F.reads s p ≡ Accepted (reading x q) → read_each F n s q ≡ Refused m carried
      → read_each F (suc n) s p ≡ Refused m carried
  unfolding read_each
  each_later n s d e = rw d (rw e)

  module _ (f : Faithful F) where
    each_back : (n : ℕ) (s : List ℕ) (p : ℕ) (xs : List A) → length s ≤ 1023 → (times n F).fits xs ≡ true → Holds s p (fields_each F xs)
        → p + total (fields_each F xs) ≤ length s * 8 → read_each F n s p ≡ Accepted (reading xs (p + total (fields_each F xs)))
    unfolding fields_each read_each
    each_back zero s p [] few g h l = ap (λ (q : ℕ). Accepted (reading [] q)) (sym (ap (λ (n : ℕ). p + n) total_none ∙ add-zero p))
    each_back zero s p (x ∷ xs) few g h l = let e = ap length (fits_none (x ∷ xs) g) in absurd (omega arith)
    each_back (suc n) s p [] few g h l = absurd (not_none n g)
    each_back (suc n) s p (x ∷ xs) few g h l =
        let fs = F.fields x in
        let gs = fields_each F xs in
        let t = total_append fs gs in
        let b = fits_rest n x xs g in
        let k = holds_append s p fs gs h in
        let e : p + total fs + total gs ≡ p + total (fs ++ gs) = omega (arith, t) in
        each_more n s (f.back s p x few b.0 k.0 (omega (arith, t, l))) (each_back n s (p + total fs) xs few b.1 k.1 (omega (arith, t, l)))
        ∙ ap (λ (q : ℕ). Accepted (reading (x ∷ xs) q)) e

    each_there : (n : ℕ) (s : List ℕ) (p : ℕ) (r : Reading (List A)) → read_each F n s p ≡ Accepted r → Stands (times n F) s p r.value r.next
    unfolding fit_each fields_each read_each
    each_there zero s p r e =
        let i : reading [] p ≡ r = cc e in
        subst (λ (x : Reading (List A)). Stands (times 0 F) s p x.value x.next) i
        (record { fitting = refl; holds = holds_none s p; ends = sym (ap (λ (n : ℕ). p + n) total_none ∙ add-zero p); within = λ some. absurd (omega (arith, some, total_none)) })
    each_there (suc n) s p r e =
        let a = then_accepted (F.reads s p) _ e in
        let b = then_accepted (read_each F n s a.0.next) _ a.2 in
        let i : reading (a.0.value ∷ b.0.value) b.0.next ≡ r = cc b.2 in
        let x = f.there s p a.0 a.1 in
        let y = each_there n s a.0.next b.0 b.1 in
        let z = next_stands F (λ c. times n F) s p a.0.next b.0.next a.0.value b.0.value x y in
        subst (λ (u : Reading (List A)). Stands (times (suc n) F) s p u.value u.next) i
        (record { fitting = fits_more n a.0.value b.0.value x.fitting y.fitting; holds = z.holds; ends = z.ends; within = z.within })

    each_fit : (n : ℕ) (xs : List A) → (times n F).fits xs ≡ true → Fit (fields_each F xs)
    unfolding fields_each
    each_fit n [] g = fit_none
    each_fit zero (x ∷ xs) g = let e = ap length (fits_none (x ∷ xs) g) in absurd (omega arith)
    each_fit (suc n) (x ∷ xs) g =
        let b = fits_rest n x xs g in
        fit_append (F.fields x) (fields_each F xs) (f.fit x b.0) (each_fit n xs b.1)

    pub times_faithful : (n : ℕ) → Faithful (times n F)
    times_faithful n = record { back = each_back n; there = each_there n; fit = each_fit n }

  module _ (f : OnlyShort F) where
    each_cut : (n : ℕ) (s : List ℕ) (p : ℕ) → length s ≤ 1023 → Cut (read_each F n s p)
    unfolding read_each
    each_cut zero s p few = tt
    each_cut (suc n) s p few =
        cut_then (F.reads s p) _ (f.cut s p few) (λ x. cut_then (read_each F n s x.next) _ (each_cut n s x.next few) (λ xs. tt))

    pub times_short : (n : ℕ) → OnlyShort (times n F)
    times_short n = record { cut = each_cut n }
