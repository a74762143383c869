-- A message is faithful where what follows its number is. Assumes nothing.
use mathlib.Core.Path.{◌≡◌, refl, sym, ap, subst, ◌∙◌}
use mathlib.Core.Bool.{Bool, true, false, cond}
use mathlib.Core.Logic.{inl, inr}
use mathlib.Core.List.{List, ◌∷◌}
use Prim.Native.Nat.{ℕ, ◌+◌, ◌*◌, ◌^◌, ◌≤◌, ◌<◌}
use native.Mathlib.Omega.{arith}
use borrow.Author.Tests.{eqb-true, eq-eqb}
use lib.ListN.{length}
use lib.Dec.{eqb, lit≤}
use Rattle.bits.specs.Told.{Told, Accepted, Refused, and_then, kind}
use Rattle.bits.specs.Field.{field, Reading, reading, read_unsigned}
use Rattle.bits.specs.Fields.{bits, total, Holds}
use Rattle.bits.proofs.FieldsLaws.{total_next, holds_first, holds_rest, holds_next, fit_next}
use Rattle.bits.proofs.ReadLaws.{reads_value, read_tells}
use Rattle.formats.specs.Format.{Format, numbered}
use Rattle.formats.specs.Faithful.{Faithful, Cut, CutOrKind, OnlyShort}
use Rattle.formats.proofs.OneLaws.{unsigned_short}
use Rattle.formats.proofs.NextLaws.{then_accepted, end_within}

module _ {A : Type 0} (n : ℕ) (F : Format A) where
  -- what was not of another kind
  is_kind : (b : Bool) (t : Told (Reading A)) {r : Reading A} → cond b t kind ≡ Accepted r → (b ≡ true) × (t ≡ Accepted r)
  is_kind true t e = (refl, e)
  is_kind false t e = let z : ◌≡◌ {A = ℕ} 0 1 = cc in absurd (omega arith)

  pub numbered_faithful : n < 2 ^ 12 → Faithful F → Faithful (numbered n F)
  numbered_faithful small f =
      record {
        back = λ s p a few g h l.
            let fs = F.fields a in
            let t = total_next 12 n fs in
            let e : p + 12 + total fs ≡ p + total (bits 12 n ∷ fs) = omega (arith, t) in
            rw (reads_value (λ v. v) s p 12 few (lit≤ tt) (lit≤ tt) (omega (arith, t, l)))
            (rw (eq-eqb (field s p 12) n (holds_first s p 12 n fs h))
            (f.back s (p + 12) a few g (holds_rest s p 12 n fs h) (omega (arith, t, l)) ∙ ap (λ (q : ℕ). Accepted (reading a q)) e));
        there = λ s p r e.
            let a = then_accepted (read_unsigned s p 12) _ e in
            let t = read_tells (λ v. v) s p 12 a.1 in
            let b = is_kind (eqb a.0.value n) (F.reads s a.0.next) a.2 in
            let v : a.0.value ≡ field s p 12 = ap (λ x. x.value) t.is in
            let q : a.0.next ≡ p + 12 = ap (λ x. x.next) t.is in
            let x = f.there s a.0.next r b.1 in
            let fs = F.fields r.value in
            let k = total_next 12 n fs in
            record {
              fitting = x.fitting;
              holds = holds_next s p 12 n fs (sym v ∙ eqb-true a.0.value n b.0) (subst (λ (k : ℕ). Holds s k fs) q x.holds);
              ends = omega (arith, q, k, x.ends);
              within = λ some. end_within (length s * 8) p (p + 12) r.next 12 (total fs) refl (omega (arith, q, x.ends)) (λ _. t.within) x.within (omega (arith, k));
            };
        fit = λ a g. fit_next 12 n (F.fields a) small (f.fit a g);
      }

  cut_else : {B C : Type 0} (t : Told B) (g : B → Told C) → Cut t → ((b : B) → CutOrKind (g b)) → CutOrKind (and_then t g)
  cut_else (Accepted b) g c d = d b
  cut_else (Refused m carried) g c d = inl c

  cut_weak : {B : Type 0} (t : Told B) → Cut t → CutOrKind t
  cut_weak (Accepted b) c = tt
  cut_weak (Refused m carried) c = inl c

  behind : (b : Bool) (t : Told (Reading A)) → Cut t → CutOrKind (cond b t kind)
  behind true t c = cut_weak t c
  behind false t c = inr refl

  -- and nothing else but Short is
  pub numbered_refuses : OnlyShort F → (s : List ℕ) (p : ℕ) → length s ≤ 1023 → CutOrKind ((numbered n F).reads s p)
  numbered_refuses f s p few =
      cut_else (read_unsigned s p 12) _ ((unsigned_short 12 (lit≤ tt) (lit≤ tt)).cut s p few) (λ m.
      behind (eqb m.value n) (F.reads s m.next) (f.cut s m.next few))
