-- Induction along a call of the scanner: what holds at each of its turns holds of the call. Assumes nothing.
use mathlib.Core.Path.{◌≡◌, refl}
use mathlib.Core.List.{List, [], ◌∷◌, ◌++◌}
use Prim.Native.Nat.{ℕ}
use lib.ListN.{take, drop}
use Rattle.frames.specs.Scan.{Decision, Skip, Take, Wait, Item, Skipped}
use Rattle.frames.specs.Feed.{Next, Held, Found, skipping, next_step, next, Fed, More, Frame, only, past, or_take, feed}

module _ {W K : Type 0} (d : List ℕ → Decision W K) where
  -- along the bytes up to the first frame
  module _ (P : List ℕ → Next W K → Type 0)
      (none : P [] (Held [] []))
      (skip : (w : W) (x : ℕ) (xs : List ℕ) (r : Next W K) → d (x ∷ xs) ≡ Skip w → P xs r → P (x ∷ xs) (skipping (Skipped w x) r))
      (found : (k : K) (n x : ℕ) (xs : List ℕ) → d (x ∷ xs) ≡ Take k n → P (x ∷ xs) (Found [] k (take n (x ∷ xs)) (drop n (x ∷ xs))))
      (wait : (x : ℕ) (xs : List ℕ) → d (x ∷ xs) ≡ Wait → P (x ∷ xs) (Held [] (x ∷ xs))) where
    along_step : (x : ℕ) (xs : List ℕ) → P xs (next d xs) → (q : Decision W K) → d (x ∷ xs) ≡ q → P (x ∷ xs) (next_step q x xs (next d xs))
    along_step x xs ih (Skip w) e = skip w x xs (next d xs) e ih
    along_step x xs ih (Take k n) e = found k n x xs e
    along_step x xs ih Wait e = wait x xs e

    pub along_next : (h : List ℕ) → P h (next d h)
    along_next [] = none
    along_next (x ∷ xs) = along_step x xs (along_next xs) (d (x ∷ xs)) refl

  -- along the bytes taken
  module _ (P : List ℕ → List ℕ → Fed W K → Type 0)
      (last : (h g : List ℕ) (is : List (Item W K)) → next d h ≡ Held is g → P h [] (More 0 is g))
      (found : (h p f g : List ℕ) (is : List (Item W K)) (k : K) → next d h ≡ Found is k f g → P h p (Frame 0 is k f g))
      (more : (h g : List ℕ) (is : List (Item W K)) (x : ℕ) (p : List ℕ) (r : Fed W K) → next d h ≡ Held is g → P (g ++ (x ∷ [])) p r → P h (x ∷ p) (past is r)) where
    pub along_feed : (p h : List ℕ) → P h p (feed d h p)
    along_feed [] h = go (next d h) refl
      where
        go : (r : Next W K) → next d h ≡ r → P h [] (only r)
        go (Held is g) e = last h g is e
        go (Found is k f g) e = found h [] f g is k e
    along_feed (x ∷ p) h = go (next d h) refl (λ g. along_feed p g)
      where
        go : (r : Next W K) → next d h ≡ r → ((g : List ℕ) → P g p (feed d g p)) → P h (x ∷ p) (or_take r (λ g. feed d (g ++ (x ∷ [])) p))
        go (Held is g) e ih = more h g is x p (feed d (g ++ (x ∷ [])) p) e (ih (g ++ (x ∷ [])))
        go (Found is k f g) e ih = found h (x ∷ p) f g is k e
