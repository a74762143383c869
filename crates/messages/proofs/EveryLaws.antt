-- Laws of what holds of each element. Assumes nothing.
use mathlib.Core.List.{List, [], ◌∷◌, ◌++◌}
use Rattle.messages.specs.Every.{Every}

module _ {A : Type 0} (P : A → Type 0) where
  pub every_join : (xs ys : List A) → Every P xs → Every P ys → Every P (xs ++ ys)
  every_join [] ys a b = b
  every_join (x ∷ xs) ys a b = (a.0, every_join xs ys a.1 b)

  pub every_split : (xs ys : List A) → Every P (xs ++ ys) → Every P xs × Every P ys
  every_split [] ys a = (tt, a)
  every_split (x ∷ xs) ys a = let r = every_split xs ys a.1 in ((a.0, r.0), r.1)

pub every_weak : {A : Type 0} {P Q : A → Type 0} → ((x : A) → P x → Q x) → (xs : List A) → Every P xs → Every Q xs
every_weak f [] a = tt
every_weak f (x ∷ xs) a = (f x a.0, every_weak f xs a.1)
