-- Fields that are put where they are known to fit: one field, as the code takes the answer, and a run part by part. Assumes nothing.
use mathlib.Core.Path.{◌≡◌, refl, sym, ap, ap₂, subst, ◌∙◌}
use mathlib.Core.List.{List, [], ◌∷◌, ◌++◌}
use mathlib.Core.Bool.{Bool, true}
use Prim.Native.Nat.{ℕ, ◌+◌, ◌-◌, ◌≤◌}
use native.Mathlib.Nat.{add-zero}
use native.Mathlib.Decide.{dec_le}
use native.Mathlib.Omega.{arith}
use borrow.Author.Tests.{le-leb, lt-leb}
use lib.Dec.{leb}
use lib.ListN.{length}
use Rattle.bits.specs.Outcome.{outcome}
use Rattle.bits.specs.Field.{write_by}
use Rattle.bits.specs.Fields.{Field, bits, total, put_all}
use Rattle.bits.specs.Answers.{told_written}
use Rattle.bits.specs.declared.refusal.Refusal.{Refusal}
use Rattle.std.specs.Prelude.{Result, Ok, IsOk}
use Rattle.bits.proofs.FieldsLaws.{total_none, total_one, total_append, put_none, put_one, put_append, length_put_all}
use Rattle.bits.proofs.WriteLaws.{writes}
use Rattle.bits.proofs.ToldLaws.{only_wrote}
use Rattle.formats.specs.Put.{RoomFor, IsPut}

-- the test for room, as the code makes it
pub room_test : (start n all : ℕ) → n ≤ all → leb start (all - n) ≡ leb (start + n) all
room_test start n all h = go (dec_le start (all - n))
  where
    go : Dec (start ≤ all - n) → leb start (all - n) ≡ leb (start + n) all
    go (yes l) = le-leb start (all - n) l ∙ sym (le-leb (start + n) all (omega arith))
    go (no l) = lt-leb start (all - n) (omega arith) ∙ sym (lt-leb (start + n) all (omega arith))

-- nothing is put
pub is_put_none : (s : List ℕ) (p : ℕ) {fs : List Field} → fs ≡ [] → IsPut s p fs s p
is_put_none s p {fs} e = subst (λ (l : List Field). IsPut s p l s p) (sym e) (record { end = sym (ap (λ (n : ℕ). p + n) total_none ∙ add-zero p); left = sym (put_none s p) })

-- of the run fs₀ from bit p₀ of s₀ on, fs is left to put from bit p of s on
pub record Left (s₀ : List ℕ) (p₀ : ℕ) (fs₀ : List Field) (s : List ℕ) (p : ℕ) (fs : List Field) : Type 0 where
  pub same : length s ≡ length s₀
  pub place : p + total fs ≡ p₀ + total fs₀
  pub rest : put_all s₀ p₀ fs₀ ≡ put_all s p fs

pub left_all : (s : List ℕ) (p : ℕ) (fs : List Field) → Left s p fs s p fs
left_all s p fs = record { same = refl; place = refl; rest = refl }

-- what is left of what was left
pub left_on : {s₀ s t : List ℕ} {p₀ p q : ℕ} {fs₀ fs gs : List Field} → Left s₀ p₀ fs₀ s p fs → Left s p fs t q gs → Left s₀ p₀ fs₀ t q gs
left_on l m = record { same = m.same ∙ l.same; place = m.place ∙ l.place; rest = l.rest ∙ m.rest }

module _ {s₀ : List ℕ} {p₀ : ℕ} {fs₀ : List Field} {s : List ℕ} {p : ℕ} where
  -- what is left, by another name
  pub left_as : {fs gs : List Field} → fs ≡ gs → Left s₀ p₀ fs₀ s p fs → Left s₀ p₀ fs₀ s p gs
  left_as e l = subst (λ x. Left s₀ p₀ fs₀ s p x) e l

  -- what is left fits
  pub left_fits_all : (fs : List Field) → Left s₀ p₀ fs₀ s p fs → RoomFor s₀ p₀ fs₀ → RoomFor s p fs
  left_fits_all fs l f = record { few = omega (arith, l.same, f.few); within = omega (arith, l.same, l.place, f.within) }

  -- the first part of what is left fits
  pub left_fits : (xs ys : List Field) → Left s₀ p₀ fs₀ s p (xs ++ ys) → RoomFor s₀ p₀ fs₀ → RoomFor s p xs
  left_fits xs ys l f =
      record {
        few = omega (arith, l.same, f.few);
        within = omega (arith, l.same, l.place, f.within, total_append xs ys);
      }

  -- once it is put, the second part is left
  pub left_put : (xs ys : List Field) {t : List ℕ} {q : ℕ} → Left s₀ p₀ fs₀ s p (xs ++ ys) → IsPut s p xs t q → Left s₀ p₀ fs₀ t q ys
  left_put xs ys {t} {q} l d =
      record {
        same = ap length d.left ∙ length_put_all s p xs ∙ l.same;
        place = omega (arith, l.place, d.end, total_append xs ys);
        rest =
            l.rest
            ∙ put_append s p xs ys
            ∙ ap₂ (λ (x : List ℕ) (n : ℕ). put_all x n ys) (sym d.left) (sym d.end);
      }

  -- nothing is left
  pub left_none : Left s₀ p₀ fs₀ s p [] → IsPut s₀ p₀ fs₀ s p
  left_none l =
      record {
        end = omega (arith, l.place, total_none);
        left = sym (l.rest ∙ put_none s p);
      }

-- ---- one field, as the code takes the answer

module _ (fitting : Bool) (v : ℕ) (s : List ℕ) (p w : ℕ) (f : RoomFor s p (bits w v ∷ [])) (low : 1 ≤ w) (high : w ≤ 64) (g : fitting ≡ true)
    (r : Result ℕ Refusal) (t : List ℕ) (e : outcome (told_written r) t ≡ write_by fitting v s p w) where
  ended : (r ≡ Ok (p + w)) × (IsPut s p (bits w v ∷ []) t (p + w))
  ended =
      let o = only_wrote (write_by fitting v s p w) e (sym (writes fitting v s p w f.few low high g (omega (arith, f.within, total_one w v)))) in
      (o.0, record { end = omega (arith, total_one w v); left = o.1 ∙ sym (put_one s p w v) })

  pub is_put_one : (q : ℕ) → r ≡ Ok q → IsPut s p (bits w v ∷ []) t q
  is_put_one q n =
      let b : Ok q ≡ Ok (p + w) = sym n ∙ ended.0 in
      let d : p + w ≡ q = cc in
      subst (λ (x : ℕ). IsPut s p (bits w v ∷ []) t x) d ended.1

  -- the write is accepted
  pub is_put_ok : IsOk r
  is_put_ok = rw ended.0 refl

  -- the arm of a `let .. else` that an accepted write never takes
  pub is_put_else : (q : ℕ) → ((n : ℕ) → r ≡ Ok n → ⊥) → IsPut s p (bits w v ∷ []) t q
  is_put_else q o = absurd (o (p + w) ended.0)
