-- Two runs of fields that lie beside each other are put in either order. Assumes nothing.
use mathlib.Core.Path.{◌≡◌, sym, ap, ◌∙◌}
use mathlib.Core.Logic.{inl, inr}
use mathlib.Core.List.{List, [], ◌∷◌}
use Prim.Native.Nat.{ℕ, ◌+◌, ◌*◌, ◌≤◌, ◌<◌}
use native.Mathlib.Decide.{dec_lt}
use native.Mathlib.Omega.{arith}
use lib.ListN.{length}
use Rattle.bits.specs.Field.{bit_at, put_field}
use Rattle.bits.specs.Fields.{Field, bits, total, put_all, Bytes}
use Rattle.bits.proofs.BitLaws.{length_put, read_back}
use Rattle.bits.proofs.SameBits.{same_bits, field_bits}
use Rattle.bits.proofs.FieldsLaws.{total_none, total_next, put_next, length_put_all, put_all_outside, bytes_put_all}

-- the bits of a run are its own, whatever list it is put into
put_all_inside : (s t : List ℕ) (p : ℕ) (fs : List Field) (k : ℕ) → p + total fs ≤ length s * 8 → p + total fs ≤ length t * 8 → p ≤ k → k < p + total fs
    → bit_at (put_all s p fs) k ≡ bit_at (put_all t p fs) k
put_all_inside s t p [] k a b l h = absurd (omega (arith, total_none))
put_all_inside s t p (bits w v ∷ fs) k a b l h =
    ap (λ (x : List ℕ). bit_at x k) (put_next s p w v fs)
    ∙ go (dec_lt k (p + w)) (λ i. put_all_inside s' t' (p + w) fs k (omega (arith, n, a, length_put s p w v)) (omega (arith, n, b, length_put t p w v)) i (omega (arith, n, h)))
    ∙ sym (ap (λ (x : List ℕ). bit_at x k) (put_next t p w v fs))
  where
    s' : List ℕ
    s' = put_field s p w v

    t' : List ℕ
    t' = put_field t p w v

    n : total (bits w v ∷ fs) ≡ w + total fs
    n = total_next w v fs

    go : Dec (k < p + w) → (p + w ≤ k → bit_at (put_all s' (p + w) fs) k ≡ bit_at (put_all t' (p + w) fs) k) → bit_at (put_all s' (p + w) fs) k ≡ bit_at (put_all t' (p + w) fs) k
    go (no i) later = later (omega (arith, i))
    go (yes i) later =
        put_all_outside s' (p + w) fs k (omega (arith, n, a, length_put s p w v)) (inl i)
        ∙ field_bits s' t' p w (read_back s p w v (omega (arith, n, a)) ∙ sym (read_back t p w v (omega (arith, n, b)))) k l i
        ∙ sym (put_all_outside t' (p + w) fs k (omega (arith, n, b, length_put t p w v)) (inl i))

module _ (s : List ℕ) (r : ℕ) (ys : List Field) (p : ℕ) (xs : List Field) (bytes : Bytes s) (apart : r + total ys ≤ p) (within : p + total xs ≤ length s * 8) where
  abbrev first : List ℕ
  first = put_all s r ys

  abbrev second : List ℕ
  second = put_all s p xs

  before : r + total ys ≤ length second * 8
  before = omega (arith, length_put_all s p xs, apart, within)

  behind : p + total xs ≤ length first * 8
  behind = omega (arith, length_put_all s r ys, within)

  -- a bit of the run behind, or behind it
  late : (k : ℕ) → p ≤ k → Dec (k < p + total xs) → bit_at (put_all second r ys) k ≡ bit_at (put_all first p xs) k
  late k l (yes i) = put_all_outside second r ys k before (inr (omega (arith, apart, l))) ∙ put_all_inside s first p xs k within behind l i
  late k l (no i) =
      put_all_outside second r ys k before (inr (omega (arith, apart, l)))
      ∙ put_all_outside s p xs k within (inr (omega (arith, i)))
      ∙ sym (put_all_outside s r ys k (omega (arith, apart, within)) (inr (omega (arith, apart, l))))
      ∙ sym (put_all_outside first p xs k behind (inr (omega (arith, i))))

  -- a bit between the runs, of the run before, or before it
  between : (k : ℕ) → k < p → r + total ys ≤ k → bit_at (put_all second r ys) k ≡ bit_at (put_all first p xs) k
  between k l h =
      put_all_outside second r ys k before (inr h)
      ∙ put_all_outside s p xs k within (inl l)
      ∙ sym (put_all_outside s r ys k (omega (arith, apart, within)) (inr h))
      ∙ sym (put_all_outside first p xs k behind (inl l))

  early : (k : ℕ) → k < p → k < r + total ys → Dec (k < r) → bit_at (put_all second r ys) k ≡ bit_at (put_all first p xs) k
  early k l h (yes i) =
      put_all_outside second r ys k before (inl i)
      ∙ put_all_outside s p xs k within (inl l)
      ∙ sym (put_all_outside s r ys k (omega (arith, apart, within)) (inl i))
      ∙ sym (put_all_outside first p xs k behind (inl l))
  early k l h (no i) =
      put_all_inside second s r ys k before (omega (arith, apart, within)) (omega (arith, i)) h
      ∙ sym (put_all_outside first p xs k behind (inl l))

  pub put_beside : put_all second r ys ≡ put_all first p xs
  put_beside =
      same_bits (put_all second r ys) (put_all first p xs)
      (bytes_put_all second r ys before (bytes_put_all s p xs within bytes))
      (bytes_put_all first p xs behind (bytes_put_all s r ys (omega (arith, apart, within)) bytes))
      (length_put_all second r ys ∙ length_put_all s p xs ∙ sym (length_put_all first p xs ∙ length_put_all s r ys))
      (λ k l. bit k (dec_lt k p) (dec_lt k (r + total ys)))
    where
      bit : (k : ℕ) → Dec (k < p) → Dec (k < r + total ys) → bit_at (put_all second r ys) k ≡ bit_at (put_all first p xs) k
      bit k (no h) i = late k (omega (arith, h)) (dec_lt k (p + total xs))
      bit k (yes h) (no i) = between k h (omega (arith, i))
      bit k (yes h) (yes i) = early k h i (dec_lt k r)
