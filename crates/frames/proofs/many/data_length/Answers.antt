-- The two bytes behind the first hold the length in their low ten bits. Assumes nothing.
use mathlib.Core.Path.{◌≡◌, refl, ◌∙◌}
use Prim.Native.Nat.{◌+◌, ◌*◌, ◌%◌}
use native.Mathlib.Omega.{arith}
use lib.ListN.{get_or}
use Rattle.bits.specs.Field.{field}
use Rattle.bits.proofs.ThreeLaws.{three_field}
use Rattle.frames.proofs.CandidateLaws.{length_here}
use Rattle.frames.proofs.many.data_length.Goals as goal

pub returns : goal.returns
returns c =
    let a = c.args in
    let p = a.piece.now in
    let x = (c.type_inv.piece (a.i + 1)).fits in
    let y = (c.type_inv.piece (a.i + 2)).fits in
    let low : (get_or p (a.i + 1) 0 * 256 + get_or p (a.i + 2) 0) % 1024 ≡ field p (a.i * 8) 24 % 1024 = omega (arith, x, y, three_field p a.i) in
    (low ∙ length_here p a.i (field p (a.i * 8) 24) refl, omega arith)
