-- The first place that a test tells, and the place that `position` finds. Assumes nothing.
use Rattle.std.specs.Prelude.{◌≡◌, List, [], ◌∷◌, map, Bool, true, false, cond, ℕ, suc, ◌+◌, ◌≤◌, ◌<◌, length, Option, Some, None, MatchOption, position}
use Rattle.std.proofs.Common.{refl, ap, ◌∙◌, sym, arith, subst}
use lib.Dec.{ltb}
use lib.ListN.{length-map}
use borrow.Author.Tests.{ltb-true, ltb-false}
use Rattle.std.specs.List.{position_or_len}
use Rattle.std.proofs.lemmas.List.Recursion.{is_position_or_len}
use Rattle.cache.specs.Cache.{first}

-- what a search found: the first place that the test tells, or none
abbrev pub Placed : {X : Type 0} → (X → Bool) → List X → Option ℕ → Type 0
Placed t l o = MatchOption o (length l ≤ first t l) (λ i. (i ≡ first t l) × (i < length l))

first_is : {X : Type 0} (t : X → Bool) (l : List X) → first t l ≡ position_or_len t l
unfolding first
first_is t = is_position_or_len (first t) t refl (λ x l. ap (λ n. cond (t x) 0 n) (one (first t l)))
  where
    one : (n : ℕ) → suc n ≡ 1 + n
    one n = omega arith

first_map : {X Y : Type 0} (f : X → Y) (t : Y → Bool) (l : List X) → first (λ x. t (f x)) l ≡ first t (map f l)
unfolding first
first_map f t [] = refl
first_map f t (x ∷ l) = ap (λ n. cond (t (f x)) 0 (suc n)) (first_map f t l)

pub placed : {X : Type 0} (t : X → Bool) (l : List X) (o : Option ℕ) → o ≡ position t l → Placed t l o
placed t l o e = subst (Placed t l) (sym e) (go (ltb (position_or_len t l) (length l)) refl)
  where
    go : (b : Bool) → ltb (position_or_len t l) (length l) ≡ b → Placed t l (cond b (Some (position_or_len t l)) None)
    go true q = (sym (first_is t l), ltb-true _ _ q)
    go false q = let h = ltb-false _ _ q in omega (arith, first_is t l, h)

-- the same, where the test looks at what f makes of each
pub placed_map : {X Y : Type 0} (f : X → Y) (t : Y → Bool) (l : List X) (o : Option ℕ) → o ≡ position (λ x. t (f x)) l → Placed t (map f l) o
placed_map f t l o e = go o (placed (λ x. t (f x)) l o e)
  where
    go : (o : Option ℕ) → Placed (λ x. t (f x)) l o → Placed t (map f l) o
    go None p = omega (arith, p, first_map f t l, length-map l f)
    go (Some i) p = (p.0 ∙ first_map f t l, omega (arith, p.1, length-map l f))
