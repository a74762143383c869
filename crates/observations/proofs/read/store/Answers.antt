-- The loop's invariant: what is left to store are the observations from `k` on. Assumes nothing.
use mathlib.Core.Path.{sym, ap, ◌∙◌}
use native.Mathlib.Omega.{arith}
use Rattle.observations.specs.Steps.{told_row}
use Rattle.observations.proofs.ListLaws.{stored_done, stored_turn, turn_ends, alike_set}
use Rattle.observations.proofs.ReadLaws.{row_there}
use Rattle.observations.proofs.read.store.Goals as goal

pub unwrap-next-requires : goal.unwrap-next-requires
unwrap-next-requires c = row_there _ c.requires.few c.loop-k.k _ _ c.loop-k-test.true c.loop-k.invariant.0 c.row_at.result c.row_at.ensures

pub loop-k-preserved : goal.loop-k-preserved
loop-k-preserved c =
    let i = c.loop-k.invariant in
    let h = c.loop-k-test.true in
    let e = sym c.row_at.ensures ∙ ap told_row c.unwrap-next.ensures in
    (turn_ends _ c.requires.few _ _ _ h i.0 e, alike_set _ _ _ _ i.1, i.2 ∙ stored_turn _ c.requires.few _ _ _ h i.0 e _)

pub returns : goal.returns
returns c =
    let i = c.loop-k.invariant in
    sym (i.2 ∙ stored_done _ c.requires.few _ _ _ c.loop-k-test.false (omega (arith, i.0)) _)
