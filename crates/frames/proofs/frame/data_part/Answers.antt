-- The part that the check's answer names. Assumes nothing.
use mathlib.Core.Path.{refl}
use Prim.Native.Nat.{◌+◌}
use native.Mathlib.Omega.{arith}
use Rattle.frames.proofs.PartLaws.{refused_part, frame_fits, accepted_part}
use Rattle.frames.proofs.frame.data_part.Goals as goal

pub returns-in_default : goal.returns-in_default
returns-in_default c =
    let a = c.args.bytes in
    refused_part a.ref_ptr a.now c.check.result c.check.ensures 3 (λ w. w.carried) c.in_default.not-Ok

pub overflow_add-result : goal.overflow_add-result
overflow_add-result c =
    let a = c.args.bytes in
    omega (arith, (frame_fits a.ref_ptr a.now c.check.result c.check.ensures _ c.in-Ok.is).2)

pub slice_bounds-result-end-2 : goal.slice_bounds-result-end-2
slice_bounds-result-end-2 c =
    let a = c.args.bytes in
    omega (arith, (frame_fits a.ref_ptr a.now c.check.result c.check.ensures _ c.in-Ok.is).1)

pub returns : goal.returns
returns c =
    let a = c.args.bytes in
    accepted_part a.ref_ptr a.now c.check.result c.check.ensures _ c.in-Ok.is 3 (c.in-Ok.frame.«data» + 3) (λ w. w.carried) refl
