-- Three bytes are a field of 24 bits. Assumes nothing.
use native.Mathlib.Omega.{arith}
use Rattle.frames.proofs.CandidateLaws.{three_here}
use Rattle.frames.proofs.scan.three_at.Goals as goal

pub returns : goal.returns
returns c =
    let x = c.byte_at-a.ensures in
    let y = c.byte_at-b.ensures in
    let z = c.byte_at-c.ensures in
    (three_here _ _ x.0 y.0 z.0 x.1 y.1 z.1, omega (arith, x.1, y.1, z.1))
