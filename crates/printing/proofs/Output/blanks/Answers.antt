-- The blanks of the line that are added are so many blanks.
use Rattle.std.proofs.Common.{ℕ, ◌∙◌, ap, arith, min}
use Rattle.std.proofs.lemmas.List.{take-replicate}
use Rattle.printing.specs.Gathered.{add}
use Rattle.printing.proofs.Output.blanks.Goals as goal

pub returns : goal.returns
returns g c =
    c.bytes.ensures ∙ ap (λ k. add k c.args.self.now) (rw (c.min.ensures, take-replicate {X = ℕ} (min c.args.n 64) 64 32 (omega arith)))
