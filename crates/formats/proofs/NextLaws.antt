-- One format behind another is faithful where both are. Assumes nothing.
use mathlib.Core.Path.{◌≡◌, refl, ap, subst, ◌∙◌}
use mathlib.Core.Bool.{Bool, true, false, false≢true, ◌&&◌}
use mathlib.Core.List.{List, ◌++◌}
use Prim.Native.Nat.{ℕ, ◌+◌, ◌*◌, ◌≤◌, ◌<◌}
use native.Mathlib.Decide.{dec_lt}
use native.Mathlib.Omega.{arith}
use lib.ListN.{length}
use Rattle.bits.specs.Told.{Told, Accepted, Refused, and_then}
use Rattle.bits.specs.Field.{Reading, reading}
use Rattle.bits.specs.Fields.{total, Holds}
use Rattle.bits.proofs.FieldsLaws.{total_append, holds_append, holds_join, fit_append}
use Rattle.formats.specs.Format.{Format, next}
use Rattle.formats.specs.Faithful.{Stands, Faithful, Cut, OnlyShort}

-- ---- answers one behind the other

-- what is accepted is one thing
pub accepted_same : {A : Type 0} {a b : A} → Accepted a ≡ Accepted b → a ≡ b
accepted_same e = cc

-- a step that was accepted came behind one that was
pub then_accepted : {A B : Type 0} (t : Told A) (f : A → Told B) {b : B} → and_then t f ≡ Accepted b → (a : A) × (t ≡ Accepted a) × (f a ≡ Accepted b)
then_accepted (Accepted a) f e = (a, refl, e)
then_accepted (Refused n carried) f e = let z : ◌≡◌ {A = ℕ} 0 1 = cc in absurd (omega arith)

-- steps that are refused with Short alone
pub cut_then : {A B : Type 0} (t : Told A) (f : A → Told B) → Cut t → ((a : A) → Cut (f a)) → Cut (and_then t f)
cut_then (Accepted a) f c d = d a
cut_then (Refused n carried) f c d = c

pub both_true : (a b : Bool) → (a && b) ≡ true → (a ≡ true) × (b ≡ true)
both_true true b e = (refl, e)
both_true false b e = absurd (false≢true e)

pub true_both : (a b : Bool) → a ≡ true → b ≡ true → (a && b) ≡ true
true_both a b p q = rw (p, q)

-- two runs of fields, one behind the other, end within the data unless both have no bits
pub end_within : (l p q r m n : ℕ) → q ≡ p + m → r ≡ q + n → (1 ≤ m → q ≤ l) → (1 ≤ n → r ≤ l) → 1 ≤ m + n → r ≤ l
end_within l p q r m n e d f g some = go (dec_lt 0 n)
  where
    go : Dec (0 < n) → r ≤ l
    go (yes h) = g (omega arith)
    go (no h) = omega (arith, e, d, h, some, f (omega (arith, h, some)))

module _ {A B : Type 0} (F : Format A) (G : A → Format B) where
  pub next_reads : (s : List ℕ) {p q r : ℕ} {a : A} {b : B} → F.reads s p ≡ Accepted (reading a q) → (G a).reads s q ≡ Accepted (reading b r)
      → (next F G).reads s p ≡ Accepted (reading (a, b) r)
  next_reads s {p} {q} {r} {a} {b} d e = rw d (rw e)

  pub next_stands : (s : List ℕ) (p q r : ℕ) (a : A) (b : B) → Stands F s p a q → Stands (G a) s q b r → Stands (next F G) s p (a, b) r
  next_stands s p q r a b x y =
      let t = total_append (F.fields a) ((G a).fields b) in
      record {
        fitting = true_both (F.fits a) ((G a).fits b) x.fitting y.fitting;
        holds = holds_join s p (F.fields a) ((G a).fields b) x.holds (subst (λ (k : ℕ). Holds s k ((G a).fields b)) x.ends y.holds);
        ends = omega (arith, t, x.ends, y.ends);
        within = λ some. end_within (length s * 8) p q r (total (F.fields a)) (total ((G a).fields b)) x.ends y.ends x.within y.within (omega (arith, t, some));
      }

  pub next_faithful : Faithful F → ((a : A) → Faithful (G a)) → Faithful (next F G)
  next_faithful f g =
      record {
        back = λ s p x few fs h l.
            let xs = F.fields x.0 in
            let ys = (G x.0).fields x.1 in
            let t = total_append xs ys in
            let b = both_true (F.fits x.0) ((G x.0).fits x.1) fs in
            let k = holds_append s p xs ys h in
            let e : p + total xs + total ys ≡ p + total (xs ++ ys) = omega (arith, t) in
            next_reads s (f.back s p x.0 few b.0 k.0 (omega (arith, t, l)))
            ((g x.0).back s (p + total xs) x.1 few b.1 k.1 (omega (arith, t, l)))
            ∙ ap (λ (q : ℕ). Accepted (reading x q)) e;
        there = λ s p r e.
            let a = then_accepted (F.reads s p) _ e in
            let b = then_accepted ((G a.0.value).reads s a.0.next) _ a.2 in
            let i : reading (a.0.value, b.0.value) b.0.next ≡ r = cc b.2 in
            subst (λ (x : Reading (A × B)). Stands (next F G) s p x.value x.next) i
            (next_stands s p a.0.next b.0.next a.0.value b.0.value (f.there s p a.0 a.1)
            ((g a.0.value).there s a.0.next b.0 b.1));
        fit = λ x fs.
            let b = both_true (F.fits x.0) ((G x.0).fits x.1) fs in
            fit_append (F.fields x.0) ((G x.0).fields x.1) (f.fit x.0 b.0) ((g x.0).fit x.1 b.1);
      }

  pub next_short : OnlyShort F → ((a : A) → OnlyShort (G a)) → OnlyShort (next F G)
  next_short f g =
      record {
        cut = λ s p few.
            cut_then (F.reads s p) _ (f.cut s p few) (λ a.
            cut_then ((G a.value).reads s a.next) _ ((g a.value).cut s a.next few) (λ b. tt));
      }
