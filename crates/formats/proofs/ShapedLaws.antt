-- A format whose values are written as others is faithful where the two ways of writing undo each other. Assumes nothing.
use mathlib.Core.Path.{◌≡◌, refl, sym, ap, subst}
use mathlib.Core.Bool.{true}
use mathlib.Core.List.{List}
use Prim.Native.Nat.{ℕ, ◌+◌, ◌^◌, ◌≤◌, ◌<◌}
use borrow.Author.Tests.{eqb-true, eq-eqb, lt-ltb, ltb-true}
use lib.ListN.{length}
use lib.Dec.{eqb}
use Rattle.bits.specs.Told.{Accepted}
use Rattle.bits.specs.Field.{Reading, reading}
use Rattle.bits.specs.Fields.{total}
use Rattle.bits.specs.Signed.{fits_unsigned}
use Rattle.formats.specs.Format.{Format, unsigned, next, times, fit_each, shaped, counted}
use Rattle.formats.specs.Faithful.{Stands, Faithful, OnlyShort}
use Rattle.formats.proofs.OneLaws.{unsigned_faithful, unsigned_short}
use Rattle.formats.proofs.NextLaws.{then_accepted, cut_then, both_true, true_both, next_faithful, next_short}
use Rattle.formats.proofs.TimesLaws.{times_faithful, times_short}

module _ {A B : Type 0} (to : A → B) (from : B → A) (F : Format A) where
  -- on what fits, `to` and `from` undo each other
  pub record Shape : Type 0 where
    pub to_from : (b : B) → F.fits (from b) ≡ true → to (from b) ≡ b
    pub from_to : (a : A) → F.fits a ≡ true → from (to a) ≡ a

  pub shaped_faithful : Shape → Faithful F → Faithful (shaped to from F)
  shaped_faithful u f =
      record {
        back = λ s p b few g h l.
            rw (f.back s p (from b) few g h l) (ap (λ (x : B). Accepted (reading x (p + total (F.fields (from b))))) (u.to_from b g));
        there = λ s p r e.
            let a = then_accepted (F.reads s p) _ e in
            let i : reading (to a.0.value) a.0.next ≡ r = cc a.2 in
            let x = f.there s p a.0 a.1 in
            subst (λ (y : Reading B). Stands (shaped to from F) s p y.value y.next) i
            (again s p a.0.value a.0.next (u.from_to a.0.value x.fitting) x);
        fit = λ b g. f.fit (from b) g;
      }
    where
      again : (s : List ℕ) (p : ℕ) (a : A) (q : ℕ) → from (to a) ≡ a → Stands F s p a q → Stands (shaped to from F) s p (to a) q
      again s p a q e x =
          let y = subst (λ (c : A). Stands F s p c q) (sym e) x in
          record { fitting = y.fitting; holds = y.holds; ends = y.ends; within = y.within }

  pub shaped_short : OnlyShort F → OnlyShort (shaped to from F)
  shaped_short f = record { cut = λ s p few. cut_then (F.reads s p) _ (f.cut s p few) (λ a. tt) }

-- ---- a count and so many

module _ {A : Type 0} (w : ℕ) (low : 1 ≤ w) (high : w ≤ 64) (F : Format A) where
  abbrev Count : Format (ℕ × List A)
  Count = next (unsigned w) (λ n. times n F)

  count_shape : Shape (λ x. x.1) (λ xs. (length xs, xs)) Count
  count_shape =
      record {
        to_from = λ b g. refl;
        from_to = λ a g.
            let b = both_true (fits_unsigned w a.0) ((times a.0 F).fits a.1) g in
            let c = both_true (eqb (length a.1) a.0) (fit_each F a.1) b.1 in
            let e = eqb-true (length a.1) a.0 c.0 in
            ap (λ (n : ℕ). (n, a.1)) e;
      }

  pub counted_faithful : Faithful F → Faithful (counted w F)
  counted_faithful f =
      shaped_faithful (λ x. x.1) (λ xs. (length xs, xs)) Count count_shape
      (next_faithful (unsigned w) (λ n. times n F) (unsigned_faithful w low high) (λ n. times_faithful F f n))

  pub counted_short : OnlyShort F → OnlyShort (counted w F)
  counted_short f =
      shaped_short (λ x. x.1) (λ xs. (length xs, xs)) Count
      (next_short (unsigned w) (λ n. times n F) (unsigned_short w low high) (λ n. times_short F f n))

-- a list fits where its length fits the count, and each of it fits
pub counted_fits : {A : Type 0} (w : ℕ) (F : Format A) (xs : List A) → length xs < 2 ^ w → fit_each F xs ≡ true → (counted w F).fits xs ≡ true
counted_fits w F xs l f =
    true_both (fits_unsigned w (length xs)) _ (lt-ltb (length xs) (2 ^ w) l) (true_both (eqb (length xs) (length xs)) _ (eq-eqb (length xs) (length xs) refl) f)

pub fits_counted : {A : Type 0} (w : ℕ) (F : Format A) (xs : List A) → (counted w F).fits xs ≡ true → (length xs < 2 ^ w) × (fit_each F xs ≡ true)
fits_counted w F xs f =
    let b = both_true (fits_unsigned w (length xs)) _ f in
    (ltb-true (length xs) (2 ^ w) b.0, (both_true (eqb (length xs) (length xs)) (fit_each F xs) b.1).1)
