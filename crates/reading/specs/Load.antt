-- What a file comes to that is read whole. Assumes nothing.
use Rattle.std.specs.Prelude.{ℕ, ◌≤◌, Result, Ok, Err}
use Rattle.reading.specs.declared.program.Failure.{Failure}

-- no more bytes than the area has
abbrev pub Fits : Result ℕ Failure → Type 0
Fits (Ok n) = n ≤ 65536
Fits (Err e) = Unit
