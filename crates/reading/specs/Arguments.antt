-- What an argument is. Assumes nothing.
use Rattle.std.specs.Prelude.{◌≡◌, ◌⊎◌, ℕ, List, [], ◌∷◌, ◌≢◌, slice_index}
use Rattle.reading.specs.declared.arguments.Kind.{Kind}
use Rattle.reading.specs.declared.arguments.Kind.TheVariants.{Help, Version, Own, Rest, Unknown, Input, File}
use Rattle.reading.specs.declared.source.Source.{Source}
use Rattle.reading.specs.declared.source.Source.TheVariants as S

-- `--help`
abbrev pub help : List ℕ
help = 45 ∷ 45 ∷ 104 ∷ 101 ∷ 108 ∷ 112 ∷ []

-- `-h`
abbrev pub short_help : List ℕ
short_help = 45 ∷ 104 ∷ []

-- `--version`
abbrev pub version : List ℕ
version = 45 ∷ 45 ∷ 118 ∷ 101 ∷ 114 ∷ 115 ∷ 105 ∷ 111 ∷ 110 ∷ []

-- `--`
abbrev pub dashes : List ℕ
dashes = 45 ∷ 45 ∷ []

-- `-`
abbrev pub dash : List ℕ
dash = 45 ∷ []

-- none of `--help`, `-h` and `--version`
abbrev pub Unasked : List ℕ → Type 0
Unasked w = (w ≢ help) × (w ≢ short_help) × (w ≢ version)

-- none of these, nor the program's own option, nor `--`
abbrev pub Other : List ℕ → List ℕ → Type 0
Other own w = Unasked w × (w ≢ own) × (w ≢ dashes)

-- the word begins with `-`
abbrev pub Dashed : List ℕ → Type 0
Dashed w = slice_index w 0 ≡ 45

-- what a word is to a program that has the option `own`
abbrev pub IsKind : List ℕ → List ℕ → Kind → Type 0
IsKind own w Help = (w ≡ help) ⊎ (w ≡ short_help)
IsKind own w Version = w ≡ version
IsKind own w Own = Unasked w × (w ≡ own)
IsKind own w Rest = Unasked w × (w ≢ own) × (w ≡ dashes)
IsKind own w Input = Other own w × (w ≡ dash)
IsKind own w Unknown = Other own w × (w ≢ dash) × Dashed w
IsKind own w File = Other own w × (w ≢ dash) × (Dashed w → ⊥)

-- what a word behind `--` is
abbrev pub IsOperand : List ℕ → Kind → Type 0
IsOperand w Input = w ≡ dash
IsOperand w File = w ≡ dash → ⊥
IsOperand w Help = ⊥
IsOperand w Version = ⊥
IsOperand w Own = ⊥
IsOperand w Rest = ⊥
IsOperand w Unknown = ⊥

-- what is read from is an open file, and not standard input
abbrev pub IsFile : Source → Type 0
IsFile (S.Input i) = ⊥
IsFile (S.File f) = Unit
