-- The place lies before the seam of held bytes and piece, or behind it. Assumes nothing.
use native.Mathlib.Omega.{arith}
use Prim.Native.Nat.{◌-◌}
use lib.ListN.{length}
use Rattle.frames.proofs.SeamLaws.{at_left, at_right}
use Rattle.frames.proofs.scan.byte_at.Goals as goal

pub returns-then-i-h : goal.returns-then-i-h
returns-then-i-h c = let a = c.args in (at_left a.held.now a.piece.now _ c.if-i-h.true, omega (arith, c.type_inv.held a.i))

pub returns : goal.returns
returns c = let a = c.args in (at_right a.held.now a.piece.now _ c.if-i-h.false, omega (arith, c.type_inv.piece (a.i - length a.held.now)))
