-- Laws of keys: the test of two keys tells whether they are equal. Assumes nothing.
use mathlib.Core.Path.{◌≡◌, refl, sym, ap, ◌∙◌}
use mathlib.Core.Bool.{Bool, true, false, cond, ◌&&◌, false≢true, true≢false}
use Prim.Native.Nat.{ℕ}
use lib.Dec.{eqb}
use borrow.Author.Tests.{eq-eqb, eqb-true}
use Rattle.cache.specs.Cache.{Key, key, same, provider_of}

both : (a b : Bool) → a && b ≡ true → (a ≡ true) × (b ≡ true)
both true b e = (refl, e)
both false b e = absurd (false≢true e)

equal_keys : (p q s t a b g h : ℕ) → p ≡ q → s ≡ t → a ≡ b → g ≡ h → key p s a g ≡ key q t b h
equal_keys p q s t a b g h x y z w = cc

pub same_tells : (a b : Key) → same a b ≡ true → a ≡ b
unfolding same
same_tells (key p s a g) (key q t b h) e =
    let x = both (eqb p q) (eqb s t && (eqb a b && eqb g h)) e in
    let y = both (eqb s t) (eqb a b && eqb g h) x.1 in
    let z = both (eqb a b) (eqb g h) y.1 in
    equal_keys p q s t a b g h (eqb-true p q x.0) (eqb-true s t y.0) (eqb-true a b z.0) (eqb-true g h z.1)

pub same_self : (a : Key) → same a a ≡ true
unfolding same
same_self (key p s a g) = rw (eq-eqb p p refl, eq-eqb s s refl, eq-eqb a a refl, eq-eqb g g refl)

equal_same : (a b : Key) → a ≡ b → same a b ≡ true
equal_same a b e = ap (same a) (sym e) ∙ same_self a

alike : (x y : Bool) → (x ≡ true → y ≡ true) → (y ≡ true → x ≡ true) → x ≡ y
alike true y f g = sym (f refl)
alike false true f g = g refl
alike false false f g = refl

pub same_swap : (a b : Key) → same a b ≡ same b a
same_swap a b =
    alike (same a b) (same b a) (λ e. equal_same b a (sym (same_tells a b e))) (λ e. equal_same a b (sym (same_tells b a e)))

pub same_left : (a b c : Key) → same a b ≡ true → same a c ≡ same b c
same_left a b c e = ap (λ (k : Key). same k c) (same_tells a b e)

-- keys that differ are not both the same as a third
pub apart : (i k j : Key) → same i k ≡ false → same i j ≡ true → same k j ≡ true → ⊥
apart i k j d e f = true≢false (sym (equal_same i k (same_tells i j e ∙ sym (same_tells k j f))) ∙ d)

provider_apart : (a b : Key) → (provider_of a ≡ provider_of b → ⊥) → same a b ≡ true → ⊥
provider_apart a b n e = n (ap provider_of (same_tells a b e))

is_false : (b : Bool) → (b ≡ true → ⊥) → b ≡ false
is_false true f = absurd (f refl)
is_false false f = refl

-- keys of two providers differ
pub foreign : (a b : Key) → (provider_of a ≡ provider_of b → ⊥) → same a b ≡ false
foreign a b n = is_false (same a b) (provider_apart a b n)

-- two tests of which at most one passes are made in either order
pub either_order : {A : Type 0} (a b : Bool) (x y z : A) → (a ≡ true → b ≡ true → ⊥) → cond a x (cond b y z) ≡ cond b y (cond a x z)
either_order true true x y z n = absurd (n refl refl)
either_order true false x y z n = refl
either_order false b x y z n = refl

-- a test made again
pub again : {A : Type 0} (a : Bool) (x y z : A) → cond a x z ≡ cond a x (cond a y z)
again true x y z = refl
again false x y z = refl
