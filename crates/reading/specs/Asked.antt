-- What the words of a program ask for that has no option of its own. Assumes nothing.
use Rattle.std.specs.Prelude.{◌≡◌, ℕ, ◌+◌, ◌<◌, true, false, List, [], ◌∷◌, length, Option, Some, None}
use Rattle.reading.specs.Arguments.{IsKind, IsOperand, help}
use Rattle.reading.specs.declared.asked.Asked.{Asked}
use Rattle.reading.specs.declared.arguments.Kind.{Kind}
use Rattle.reading.specs.declared.arguments.Kind.TheVariants.{Help, Version, Own, Rest, Unknown, Input, File}

-- what no word at all asks for
abbrev pub nothing : Asked
nothing = record { help = false; version = false; unknown = None; rest = None; first = None; second = None; third = None }

-- the first of two places, of which the second is there
abbrev pub first : Option ℕ → ℕ → Option ℕ
first None b = Some b
first (Some a) b = Some a

-- word i is no option: it is the first, the second or a further one
abbrev pub further : Option ℕ → Option ℕ → Asked → ℕ → Asked
further None y a i = record a { first = Some i }
further (Some x) None a i = record a { second = Some i }
further (Some x) (Some y) a i = record a { third = Some i }

abbrev pub named : Asked → ℕ → Asked
named a i = further a.first a.second a i

-- what is asked for once word i is known too
abbrev pub noted : Asked → Kind → ℕ → Asked
noted a Help i = record a { help = true }
noted a Version i = record a { version = true }
noted a Own i = a
noted a Rest i = record a { rest = Some i }
noted a Unknown i = record a { unknown = first a.unknown i }
noted a Input i = named a i
noted a File i = named a i

-- what words of these kinds ask for, the last word being the first of the list; they count from 1
unfoldable pub seen : List Kind → Asked
seen [] = nothing
seen (k ∷ ks) = noted (seen ks) k (length ks + 1)

-- it is what words of some kinds ask for
abbrev pub Comes : Asked → Type 0
Comes a = (ks : List Kind) × (a ≡ seen ks)

-- place i is behind that of `--`
abbrev pub Behind : ℕ → Option ℕ → Type 0
Behind i None = ⊥
Behind i (Some rest) = rest < i

-- what the word of argument i is: behind `--` it names something, else it may be an option
abbrev pub IsWord : List ℕ → ℕ → Option ℕ → Kind → Type 0
IsWord w i rest k = (Behind i rest → IsOperand w k) × ((Behind i rest → ⊥) → IsKind help w k)
