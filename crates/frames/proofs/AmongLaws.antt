-- A run of bytes in which none is x, and the first start behind such a run. Assumes nothing.
use mathlib.Core.Path.{◌≡◌, refl, sym, subst}
use mathlib.Core.Bool.{Bool, true, false, ◌||◌, true≢false}
use mathlib.Core.Logic.{⊎_elim}
use mathlib.Core.List.{List}
use Prim.Native.Nat.{ℕ, zero, suc, ◌+◌, ◌≤◌, ◌<◌}
use native.Mathlib.Nat.{eq-or-lt_of_le}
use native.Mathlib.Omega.{arith}
use lib.ListN.{get_or}
use lib.Dec.{eqb}
use Rattle.frames.specs.Steps.{Start, starts_either, among}

or_left : (a b : Bool) → (a || b) ≡ false → a ≡ false
or_left false b e = refl
or_left true b e = absurd (true≢false e)

or_right : (a b : Bool) → (a || b) ≡ false → b ≡ false
or_right false b e = e
or_right true b e = absurd (true≢false e)

none_upto : (x : ℕ) (s : List ℕ) (i n : ℕ) → among x n s i ≡ false → (k : ℕ) → i ≤ k → k ≤ i + n → eqb (get_or s k 0) x ≡ false
unfolding among
none_upto x s i zero e k l h =
    let q : i ≡ k = omega arith in
    subst (λ (j : ℕ). eqb (get_or s j 0) x ≡ false) q e
none_upto x s i (suc n) e k l h =
    ⊎_elim
    (λ q. subst (λ (j : ℕ). eqb (get_or s j 0) x ≡ false) (sym q) (or_right (among x n s i) (eqb (get_or s (i + suc n) 0) x) e))
    (λ lt. none_upto x s i n (or_left (among x n s i) (eqb (get_or s (i + suc n) 0) x) e) k l (omega arith))
    (eq-or-lt_of_le h)

-- none of the sixteen bytes from place i on is x
pub none_of : (x : ℕ) (s : List ℕ) (i : ℕ) → among x 15 s i ≡ false → (k : ℕ) → i ≤ k → k < i + 16 → eqb (get_or s k 0) x ≡ false
none_of x s i e k l h = none_upto x s i 15 e k l (omega arith)

-- a byte that is neither B5 nor D3 starts no frame
pub neither : (x : ℕ) → eqb x 0xB5 ≡ false → eqb x 0xD3 ≡ false → starts_either x ≡ false
neither x a b = rw (a, b)

-- what holds below i and in the m places from there on holds below their end
pub below_run : (P : ℕ → Type 0) (i m : ℕ) → ((k : ℕ) → k < i → P k) → ((k : ℕ) → i ≤ k → k < i + m → P k) → (k : ℕ) → k < i + m → P k
below_run P i zero a r k l = a k (omega arith)
below_run P i (suc m) a r k l =
    let h : k ≤ i + m = omega arith in
    ⊎_elim (λ e. r k (omega arith) l) (λ lt. below_run P i m a (λ j g q. r j g (omega arith)) k lt) (eq-or-lt_of_le h)

-- the first start from place i on is the first one from an earlier place on, where none lies between
pub first_from_lem : (p : ℕ → Bool) (s : List ℕ) (from i j : ℕ) → from ≤ i → ((k : ℕ) → k < i → from ≤ k → p (get_or s k 0) ≡ false) → Start p s i j → Start p s from j
first_from_lem p s from i j l a t =
    record {
      from = omega (arith, l, t.from);
      within = t.within;
      none = λ k h g. below_run (λ (n : ℕ). n < j → from ≤ n → p (get_or s n 0) ≡ false) i j (λ n b _ f. a n b f) (λ n b _ q _. t.none n q b) k (omega (arith, h)) h g;
      there = t.there;
    }
