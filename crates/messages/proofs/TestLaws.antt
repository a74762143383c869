-- Tests that antt computes over a whole list, or over all numbers below a bound, and what they give at one place. Assumes nothing.
use mathlib.Core.Path.{◌≡◌, sym, subst}
use mathlib.Core.Logic.{⊎_elim}
use mathlib.Core.Bool.{Bool, true, false, ◌&&◌}
use mathlib.Core.List.Memᴰ
use mathlib.Core.List.{List, [], ◌∷◌, Memᴰ}
use Prim.Native.Nat.{ℕ, zero, suc, ◌<◌}
use native.Mathlib.Nat.{not-suc-le-zero, le_of_suc-le-suc, eq-or-lt_of_le}
use lib.Dec.{T}
use lib.ListN.{get_or}

pub left : (a b : Bool) → T (a && b) → T a
left true b t = tt
left false b t = t

pub right : (a b : Bool) → T (a && b) → T b
right true b t = t
right false b t = absurd t

-- the test passes at each element
abbrev pub all : {A : Type 0} → (A → Bool) → List A → Bool
all f [] = true
all f (x ∷ xs) = f x && all f xs

pub all_member : {A : Type 0} (f : A → Bool) (xs : List A) {a : A} → T (all f xs) → Memᴰ a xs → T (f a)
all_member f [] t m = absurd (Memᴰ.not-nil m)
all_member f (x ∷ xs) {a} t m =
    ⊎_elim
    (λ (e : a ≡ x). subst (λ z. T (f z)) (sym e) (left (f x) (all f xs) t))
    (λ (m : Memᴰ a xs). all_member f xs (right (f x) (all f xs) t) m)
    (Memᴰ.cases_cons m)

-- what passes at each element and at the default passes at every place
pub all_place : {A : Type 0} (f : A → Bool) (xs : List A) (d : A) → T (all f xs) → T (f d) → (i : ℕ) → T (f (get_or xs i d))
all_place f [] d t e i = e
all_place f (x ∷ xs) d t e zero = left (f x) (all f xs) t
all_place f (x ∷ xs) d t e (suc i) = all_place f xs d (right (f x) (all f xs) t) e i

-- the test passes at each number below n
abbrev pub below : (ℕ → Bool) → ℕ → Bool
below f zero = true
below f (suc n) = f n && below f n

pub below_place : (f : ℕ → Bool) (n : ℕ) → T (below f n) → (k : ℕ) → k < n → T (f k)
below_place f zero t k h = absurd (not-suc-le-zero h)
below_place f (suc n) t k h =
    ⊎_elim
    (λ (e : k ≡ n). subst (λ z. T (f z)) (sym e) (left (f n) (below f n) t))
    (λ (g : k < n). below_place f n (right (f n) (below f n) t) k g)
    (eq-or-lt_of_le (le_of_suc-le-suc h))
