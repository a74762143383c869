-- The part that the check's answer names. Assumes nothing.
use mathlib.Core.Path.{sym}
use native.Mathlib.Nat.{add-zero}
use native.Mathlib.Omega.{arith}
use Rattle.frames.proofs.PartLaws.{refused_part, frame_fits, accepted_part}
use Rattle.frames.proofs.frame.frame_part.Goals as goal

pub returns-in_default : goal.returns-in_default
returns-in_default c =
    let a = c.args.bytes in
    refused_part a.ref_ptr a.now c.check.result c.check.ensures 0 (λ w. w.length) c.in_default.not-Ok

pub slice_bounds-result-end-2 : goal.slice_bounds-result-end-2
slice_bounds-result-end-2 c =
    let a = c.args.bytes in
    omega (arith, (frame_fits a.ref_ptr a.now c.check.result c.check.ensures _ c.in-Ok.is).0)

pub returns : goal.returns
returns c =
    let a = c.args.bytes in
    accepted_part a.ref_ptr a.now c.check.result c.check.ensures _ c.in-Ok.is 0 c.in-Ok.frame.length (λ w. w.length) (sym (add-zero c.in-Ok.frame.length))
