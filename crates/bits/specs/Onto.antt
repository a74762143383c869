-- Writing over a part of a lent area: what lies outside stays. Assumes nothing.
use Rattle.std.specs.Prelude.{List, ◌++◌, ℕ, ◌+◌, length, take, drop}

-- the area d with xs over its front
abbrev pub onto : {A : Type 0} → List A → List A → List A
onto xs d = xs ++ drop (length xs) d

-- the area d with xs over what stands from place i on
abbrev pub over : {A : Type 0} → ℕ → List A → List A → List A
over i xs d = take i d ++ xs ++ drop (i + length xs) d
