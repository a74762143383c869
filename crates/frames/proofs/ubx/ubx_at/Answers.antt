-- What was claimed is decided, or the sums decide. Assumes nothing.
use mathlib.Core.Path.{subst}
use native.Mathlib.Omega.{arith}
use mathlib.Core.List.{◌++◌}
use Rattle.frames.specs.Steps.{Claim}
use Rattle.frames.proofs.ubx.ubx_at.Goals as goal

pub overflow_sub-n : goal.overflow_sub-n
overflow_sub-n c = let a = c.args in (subst (Claim (a.held.now ++ a.piece.now) a.i) c.in-Good.is c.claim-claimed.ensures).0

pub by_sums-requires : goal.by_sums-requires
by_sums-requires c = let a = c.args in let w = subst (Claim (a.held.now ++ a.piece.now) a.i) c.in-Good.is c.claim-claimed.ensures in (omega arith, c.requires.2, w.1)

pub returns : goal.returns
returns c = c.by_sums.ensures
