-- Two functions that respect exclusive or are equal below 2 ^ n if they are equal at the powers of 2. Assumes nothing.
use mathlib.Core.Path.{◌≡◌, sym, ap, ap₂, ◌∙◌, subst}
use mathlib.Core.Bool.{Bool, true}
use mathlib.Core.List.{List, [], ◌∷◌}
use Prim.Native.Nat.{ℕ, zero, suc, ◌+◌, ◌*◌, ◌/◌, ◌%◌, ◌^◌, ◌<◌}
use native.Mathlib.Nat.{mod-lt, le_of_suc-le-suc, not-suc-le-zero, zero-mul, one-mul, le_refl, le_trans, le-suc, eq-or-lt_of_le}
use mathlib.Core.Logic.{⊎_elim}
use native.Mathlib.Omega.{arith}
use lib.Dec.{T, eqb, eqb→eq}
use lib.Pow.{pow_pos, split, shr_lt}
use lib.Arith.{lt-one}
use lib.Bits.{bit_xor, xor_self, xor_shifted, xor_shr, xor_mod}
use Rattle.bits.specs.FoldSteps.{over, up, ups, down, downs}
use Rattle.bits.proofs.XorLaws.{xor_swap, xor_shl}
use Rattle.bits.proofs.EveryPlace.{both, both_left, both_right}

abbrev pub Linear : (ℕ → ℕ) → Type 0
Linear f = (x y : ℕ) → f (bit_xor x y) ≡ bit_xor (f x) (f y)

pub linear_zero : (f : ℕ → ℕ) → Linear f → f 0 ≡ 0
linear_zero f l = l 0 0 ∙ xor_self (f 0)

-- ---- at the powers

top : (f g : ℕ → ℕ) → Linear f → Linear g → (n t : ℕ) → f (2 ^ n) ≡ g (2 ^ n) → t < 2 → f (t * 2 ^ n) ≡ g (t * 2 ^ n)
top f g lf lg n zero e h = ap f (zero-mul (2 ^ n)) ∙ linear_zero f lf ∙ sym (linear_zero g lg) ∙ ap g (sym (zero-mul (2 ^ n)))
top f g lf lg n (suc zero) e h = ap f (one-mul (2 ^ n)) ∙ e ∙ ap g (sym (one-mul (2 ^ n)))
top f g lf lg n (suc (suc t)) e h = absurd (not-suc-le-zero (le_of_suc-le-suc (le_of_suc-le-suc h)))

pub agree : (f g : ℕ → ℕ) → Linear f → Linear g → (n : ℕ) → ((j : ℕ) → j < n → f (2 ^ j) ≡ g (2 ^ j)) → (x : ℕ) → x < 2 ^ n → f x ≡ g x
agree f g lf lg zero h x hx =
    let e : x ≡ 0 = lt-one hx in
    ap f e ∙ linear_zero f lf ∙ sym (linear_zero g lg) ∙ ap g (sym e)
agree f g lf lg (suc n) h x hx =
    let t = x / 2 ^ n in
    let r = x % 2 ^ n in
    let hr : r < 2 ^ n = mod-lt x (pow_pos n) in
    let k : suc n ≡ 1 + n = omega arith in
    let e : x ≡ bit_xor (t * 2 ^ n) r = sym (xor_shifted t n r hr ∙ split x n) in
    ap f e
    ∙ lf (t * 2 ^ n) r
    ∙ ap₂ bit_xor (top f g lf lg n t (h n (le_refl (suc n))) (shr_lt 1 n (subst (λ (i : ℕ). x < 2 ^ i) k hx)))
    (agree f g lf lg n (λ j hj. h j (le_trans hj (le-suc n))) r hr)
    ∙ sym (lg (t * 2 ^ n) r)
    ∙ ap g (sym e)

-- ---- computed

-- f and g are equal at the powers of 2 below 2 ^ n
abbrev pub even_at : (ℕ → ℕ) → (ℕ → ℕ) → ℕ → Bool
even_at f g zero = true
even_at f g (suc n) = both (eqb (f (2 ^ n)) (g (2 ^ n))) (even_at f g n)

at_power : (f g : ℕ → ℕ) (n : ℕ) → T (even_at f g n) → (j : ℕ) → j < n → f (2 ^ j) ≡ g (2 ^ j)
at_power f g zero t j h = absurd (not-suc-le-zero h)
at_power f g (suc n) t j h =
    ⊎_elim
    (λ e.
    ap (λ (k : ℕ). f (2 ^ k)) e
    ∙ eqb→eq (f (2 ^ n)) (g (2 ^ n)) (both_left (eqb (f (2 ^ n)) (g (2 ^ n))) (even_at f g n) t)
    ∙ ap (λ (k : ℕ). g (2 ^ k)) (sym e))
    (λ l. at_power f g n (both_right (eqb (f (2 ^ n)) (g (2 ^ n))) (even_at f g n) t) j l)
    (eq-or-lt_of_le (le_of_suc-le-suc h))

-- functions that respect exclusive or and pass the test are equal below 2 ^ n
pub by_test : (f g : ℕ → ℕ) → Linear f → Linear g → (n : ℕ) → T (even_at f g n) → (x : ℕ) → x < 2 ^ n → f x ≡ g x
by_test f g lf lg n t x h = agree f g lf lg n (at_power f g n t) x h

-- ---- shifts

pub shr_linear : (k : ℕ) → Linear (λ (x : ℕ). x / 2 ^ k)
shr_linear k x y = xor_shr x y k

pub shl_linear : (k w : ℕ) → Linear (λ (x : ℕ). x * 2 ^ k % 2 ^ w)
shl_linear k w x y = ap (λ (n : ℕ). n % 2 ^ w) (xor_shl x y k) ∙ xor_mod (x * 2 ^ k) (y * 2 ^ k) w

pub xor_linear : (f g : ℕ → ℕ) → Linear f → Linear g → Linear (λ (x : ℕ). bit_xor (f x) (g x))
xor_linear f g lf lg x y = ap₂ bit_xor (lf x y) (lg x y) ∙ xor_swap (f x) (f y) (g x) (g y)

pub mod_linear : (k : ℕ) → Linear (λ (x : ℕ). x % 2 ^ k)
mod_linear k x y = xor_mod x y k

pub after : (f g : ℕ → ℕ) → Linear f → Linear g → Linear (λ (x : ℕ). f (g x))
after f g lf lg x y = ap f (lg x y) ∙ lf (g x) (g y)

pub over_linear : (m : ℕ → ℕ → ℕ) → ((k : ℕ) → Linear (m k)) → (f : ℕ → ℕ) → Linear f → (ks : List ℕ) → Linear (over m f ks)
over_linear m lm f lf [] = lf
over_linear m lm f lf (k ∷ ks) = over_linear m lm (λ (x : ℕ). bit_xor (f x) (m k x)) (xor_linear f (m k) lf (lm k)) ks

pub downs_linear : (k : ℕ) (ks : List ℕ) → Linear (downs k ks)
downs_linear k ks = over_linear down shr_linear (down k) (shr_linear k) ks

pub ups_linear : (k : ℕ) (ks : List ℕ) → Linear (ups k ks)
ups_linear k ks = over_linear up (λ j. shl_linear j 64) (up k) (shl_linear k 64) ks
