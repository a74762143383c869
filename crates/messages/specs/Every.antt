-- What holds of each element of a list, and what each gives. Assumes nothing.
use Rattle.std.specs.Prelude.{List, [], ◌∷◌, ◌++◌}

-- P holds of each of them
abbrev pub Every : {A : Type 0} → (A → Type 0) → List A → Type 0
Every P [] = Unit
Every P (x ∷ xs) = P x × Every P xs

-- what each gives, one behind the other
unfoldable pub gather : {A B : Type 0} → (A → List B) → List A → List B
gather g [] = []
gather g (x ∷ xs) = g x ++ gather g xs
