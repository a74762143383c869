-- The loop's invariant: what is left to put are the observations from `i` on. Assumes nothing.
use mathlib.Core.Path.{ap}
use Rattle.formats.specs.Format.{fields_each}
use Rattle.formats.proofs.PutLaws.{left_all, left_as, left_fits, left_put, left_none}
use Rattle.observations.specs.Message1001.{observation1001}
use Rattle.observations.proofs.ListLaws.{rows_all}
use Rattle.observations.proofs.WriteLaws.{all_left, turn_fields, turn_fits, no_fields}
use Rattle.observations.proofs.write.Columns.put.Goals as goal

pub loop-i-init : goal.loop-i-init
loop-i-init c = (left_as (ap (fields_each observation1001) (rows_all _ _)) (left_all _ _ _), all_left _ _ c.requires.1)

pub put_row-at-requires : goal.put_row-at-requires
put_row-at-requires c =
    let l = c.loop-i in
    let h = c.loop-i-test.true in
    (left_fits _ _ (left_as (turn_fields _ _ _ h _ c.row.ensures) l.invariant.0) c.requires.0, (turn_fits _ _ _ h _ c.row.ensures l.invariant.1).0)

pub loop-i-preserved : goal.loop-i-preserved
loop-i-preserved c =
    let l = c.loop-i in
    let h = c.loop-i-test.true in
    (left_put _ _ (left_as (turn_fields _ _ _ h _ c.row.ensures) l.invariant.0) c.put_row-at.ensures, (turn_fits _ _ _ h _ c.row.ensures l.invariant.1).1)

pub shape_of-bytes : goal.shape_of-bytes
shape_of-bytes c = c.loop-i.invariant.0.same

pub returns : goal.returns
returns c = (left_none (left_as (no_fields _ _ _ c.loop-i-test.false) c.loop-i.invariant.0)).left
