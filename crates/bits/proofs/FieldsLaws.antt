-- Laws of runs of fields, over any run. Assumes nothing.
use mathlib.Core.Path.{◌≡◌, refl, sym, ap, subst, ◌∙◌}
use mathlib.Core.Logic.{◌⊎◌, inl, inr}
use mathlib.Core.List.{List, [], ◌∷◌, ◌++◌}
use Prim.Native.Nat.{ℕ, ◌+◌, ◌*◌, ◌^◌, ◌≤◌, ◌<◌}
use native.Mathlib.Nat.{add-zero, zero-add, add_assoc}
use native.Mathlib.Omega.{arith}
use lib.ListN.{length}
use Rattle.bits.specs.Field.{bit_at, field, put_field}
use Rattle.bits.specs.Fields.{Field, bits, total, put_all, Holds, Fit, Bytes}
use Rattle.bits.proofs.BitLaws.{length_put, put_outside, field_ext, read_back_fits}
use Rattle.bits.proofs.SameBits.{bytes_put, put_same}

-- ---- the equations of a run: for the layers above, which cite them in place of the definitions

pub total_none : total [] ≡ 0
unfolding total
total_none = refl

pub total_next : (w v : ℕ) (fs : List Field) → total (bits w v ∷ fs) ≡ w + total fs
unfolding total
total_next w v fs = refl

pub total_one : (w v : ℕ) → total (bits w v ∷ []) ≡ w
total_one w v = total_next w v [] ∙ ap (λ (n : ℕ). w + n) total_none ∙ add-zero w

module _ (s : List ℕ) (p : ℕ) where
  pub put_none : put_all s p [] ≡ s
  unfolding put_all
  put_none = refl

  pub put_next : (w v : ℕ) (fs : List Field) → put_all s p (bits w v ∷ fs) ≡ put_all (put_field s p w v) (p + w) fs
  unfolding put_all
  put_next w v fs = refl

  pub put_one : (w v : ℕ) → put_all s p (bits w v ∷ []) ≡ put_field s p w v
  unfolding put_all
  put_one w v = refl

  pub holds_none : Holds s p []
  unfolding Holds
  holds_none = tt

module _ (s : List ℕ) (p w v : ℕ) (fs : List Field) where
  pub holds_next : field s p w ≡ v → Holds s (p + w) fs → Holds s p (bits w v ∷ fs)
  unfolding Holds
  holds_next e h = (e, h)

  pub holds_first : Holds s p (bits w v ∷ fs) → field s p w ≡ v
  unfolding Holds
  holds_first h = h.0

  pub holds_rest : Holds s p (bits w v ∷ fs) → Holds s (p + w) fs
  unfolding Holds
  holds_rest h = h.1

pub holds_one : (s : List ℕ) (p w v : ℕ) → field s p w ≡ v → Holds s p (bits w v ∷ [])
holds_one s p w v e = holds_next s p w v [] e (holds_none s (p + w))

pub fit_none : Fit []
unfolding Fit
fit_none = tt

pub fit_next : (w v : ℕ) (fs : List Field) → v < 2 ^ w → Fit fs → Fit (bits w v ∷ fs)
unfolding Fit
fit_next w v fs h f = (h, f)

-- ---- laws

pub total_append : (xs ys : List Field) → total (xs ++ ys) ≡ total xs + total ys
unfolding total
total_append [] ys = sym (zero-add (total ys))
total_append (bits w v ∷ xs) ys = ap (λ (n : ℕ). w + n) (total_append xs ys) ∙ sym (add_assoc w (total xs) (total ys))

-- a run is put by its parts
pub put_append : (s : List ℕ) (p : ℕ) (xs ys : List Field) → put_all s p (xs ++ ys) ≡ put_all (put_all s p xs) (p + total xs) ys
unfolding total put_all
put_append s p [] ys = ap (λ (n : ℕ). put_all s n ys) (sym (add-zero p))
put_append s p (bits w v ∷ xs) ys =
    put_append (put_field s p w v) (p + w) xs ys
    ∙ ap (λ (n : ℕ). put_all (put_all (put_field s p w v) (p + w) xs) n ys) (add_assoc p w (total xs))

pub length_put_all : (s : List ℕ) (p : ℕ) (fs : List Field) → length (put_all s p fs) ≡ length s
unfolding put_all
length_put_all s p [] = refl
length_put_all s p (bits w v ∷ fs) = length_put_all (put_field s p w v) (p + w) fs ∙ length_put s p w v

-- bits outside the run stay
pub put_all_outside : (s : List ℕ) (p : ℕ) (fs : List Field) (k : ℕ) → p + total fs ≤ length s * 8 → (k < p) ⊎ (p + total fs ≤ k)
    → bit_at (put_all s p fs) k ≡ bit_at s k
unfolding total put_all
put_all_outside s p [] k h o = refl
put_all_outside s p (bits w v ∷ fs) k h o =
    put_all_outside (put_field s p w v) (p + w) fs k (rw (length_put s p w v) (omega arith)) (later o)
    ∙ put_outside s p w v k (omega arith) (first o)
  where
    later : (k < p) ⊎ (p + (w + total fs) ≤ k) → (k < p + w) ⊎ (p + w + total fs ≤ k)
    later (inl l) = inl (omega arith)
    later (inr l) = inr (omega arith)

    first : (k < p) ⊎ (p + (w + total fs) ≤ k) → (k < p) ⊎ (p + w ≤ k)
    first (inl l) = inl l
    first (inr l) = inr (omega arith)

-- what was put stands there
pub put_all_holds : (s : List ℕ) (p : ℕ) (fs : List Field) → p + total fs ≤ length s * 8 → Fit fs → Holds (put_all s p fs) p fs
unfolding total put_all Holds Fit
put_all_holds s p [] h f = tt
put_all_holds s p (bits w v ∷ fs) h f =
    let t = put_field s p w v in
    let l : p + w + total fs ≤ length t * 8 = rw (length_put s p w v) (omega arith) in (
      field_ext (put_all t (p + w) fs) t p w (λ i a b. put_all_outside t (p + w) fs i l (inl b))
          ∙ read_back_fits s p w v (omega arith) f.0,
      put_all_holds t (p + w) fs l f.1,
    )

pub bytes_put_all : (s : List ℕ) (p : ℕ) (fs : List Field) → p + total fs ≤ length s * 8 → Bytes s → Bytes (put_all s p fs)
unfolding total put_all
bytes_put_all s p [] h b = b
bytes_put_all s p (bits w v ∷ fs) h b =
    bytes_put_all (put_field s p w v) (p + w) fs (rw (length_put s p w v) (omega arith)) (bytes_put s p w v (omega arith) b)

-- what stands there already changes nothing
pub put_all_same : (s : List ℕ) (p : ℕ) (fs : List Field) → p + total fs ≤ length s * 8 → Bytes s → Holds s p fs → put_all s p fs ≡ s
unfolding total put_all Holds
put_all_same s p [] h b q = refl
put_all_same s p (bits w v ∷ fs) h b q =
    let e : put_field s p w v ≡ s = ap (put_field s p w) (sym q.0) ∙ put_same s p w (omega arith) b in
    ap (λ (t : List ℕ). put_all t (p + w) fs) e ∙ put_all_same s (p + w) fs (omega arith) b q.1

-- the parts of a run that stands there, and its first field
pub holds_append : (s : List ℕ) (p : ℕ) (xs ys : List Field) → Holds s p (xs ++ ys) → Holds s p xs × Holds s (p + total xs) ys
unfolding total Holds
holds_append s p [] ys q = (tt, subst (λ (n : ℕ). Holds s n ys) (sym (add-zero p)) q)
holds_append s p (bits w v ∷ xs) ys q =
    let r = holds_append s (p + w) xs ys q.1 in
    ((q.0, r.0), subst (λ (n : ℕ). Holds s n ys) (add_assoc p w (total xs)) r.1)

pub holds_join : (s : List ℕ) (p : ℕ) (xs ys : List Field) → Holds s p xs → Holds s (p + total xs) ys → Holds s p (xs ++ ys)
unfolding total Holds
holds_join s p [] ys q r = subst (λ (n : ℕ). Holds s n ys) (add-zero p) r
holds_join s p (bits w v ∷ xs) ys q r =
    (q.0, holds_join s (p + w) xs ys q.1 (subst (λ (n : ℕ). Holds s n ys) (sym (add_assoc p w (total xs))) r))

pub fit_append : (xs ys : List Field) → Fit xs → Fit ys → Fit (xs ++ ys)
unfolding Fit
fit_append [] ys a b = b
fit_append (bits w v ∷ xs) ys a b = (a.0, fit_append xs ys a.1 b)
