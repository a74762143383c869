-- `observations::measured::phase` meets its contract. The marker reads as absent, any other number as that many units. Assumes nothing.
use mathlib.Core.Path.{◌≡◌, sym, ap, ◌∙◌}
use mir.Syntax.{w32}
use mir.Val.{to_z, of_z}
use borrow.Author.Rules.{rules}
use Rattle.observations.specs.Measured.{phase_of}
use Rattle.observations.proofs.MeasuredLaws.{halves, marked, unmarked}
use Rattle.observations.proofs.measured.phase.Goals as goal

pub returns-then-raw-eqminus524288 : goal.returns-then-raw-eqminus524288
unfolding phase_of
returns-then-raw-eqminus524288 c =
    let back : to_z w32 (of_z w32 c.args.raw) ≡ c.args.raw = search rules in
    simp (marked c.args.raw (sym back ∙ ap (to_z w32) c.if-raw-eqminus524288.true))

pub returns : goal.returns
unfolding phase_of
returns c =
    let z = c.args.raw in
    let back : to_z w32 (of_z w32 z) ≡ z = search rules in
    simp (unmarked z (λ e. c.if-raw-eqminus524288.false (ap (of_z w32) e)), back, halves)
