-- Three bytes are the field's three digits. Assumes nothing.
use native.Mathlib.Omega.{arith}
use borrow.Author.Rules.{rules}
use Rattle.bits.proofs.ThreeLaws.{three_field}
use Rattle.frames.proofs.frame.three_at.Goals as goal

pub returns : goal.returns
returns c =
    let a = c.args in
    let s = a.bytes.now in
    (omega (arith, three_field s a.i), search rules)
