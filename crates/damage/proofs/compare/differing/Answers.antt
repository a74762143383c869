-- The part that the comparison's answer names. Assumes nothing.
use Rattle.std.proofs.Common.{arith}
use Rattle.damage.proofs.CompareLaws.{refused_part, run_fits, accepted_part}
use Rattle.damage.proofs.compare.differing.Goals as goal

pub returns-in_default : goal.returns-in_default
returns-in_default c =
    let a = c.args in
    refused_part a.sent.now a.received.now a.received.ref_ptr c.compare.result c.compare.ensures _ c.in_default.is

pub overflow_add-result : goal.overflow_add-result
overflow_add-result c =
    let a = c.args in
    omega (arith, run_fits a.sent.now a.received.now a.received.ref_ptr c.compare.result c.compare.ensures _ c.in-Ok.is)

pub slice_bounds-result-end-2 : goal.slice_bounds-result-end-2
slice_bounds-result-end-2 c =
    let a = c.args in
    omega (arith, run_fits a.sent.now a.received.now a.received.ref_ptr c.compare.result c.compare.ensures _ c.in-Ok.is)

pub returns : goal.returns
returns c =
    let a = c.args in
    accepted_part a.sent.now a.received.now a.received.ref_ptr c.compare.result c.compare.ensures _ c.in-Ok.is
