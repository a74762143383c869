-- The numbers that a list of the code can hold where its elements are i16. Assumes nothing.
use Rattle.std.specs.Prelude.{List, ℤ}
use Rattle.std.specs.Int.{w16}
use Rattle.std.proofs.Common.{SFits}
use Rattle.messages.specs.Every.{Every}

-- each number is from -32,768 to 32,767, as every number of a slice of i16 is by the language's own rule
abbrev pub OfI16 : List ℤ → Type 0
OfI16 zs = Every (SFits w16) zs
