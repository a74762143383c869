-- What was claimed is decided, or the window decides. Assumes nothing.
use mathlib.Core.Path.{subst}
use native.Mathlib.Omega.{arith}
use mathlib.Core.List.{◌++◌}
use lib.ListN.{length-append}
use Rattle.frames.specs.Steps.{Claim}
use Rattle.frames.proofs.many.ubx_in.Goals as goal

pub overflow_sub-n : goal.overflow_sub-n
overflow_sub-n c = let a = c.args in (subst (Claim (a.held.now ++ a.piece.now) a.i) c.in-Good.is c.claim-claimed.ensures).0

pub sums_in-requires : goal.sums_in-requires
sums_in-requires c =
    let a = c.args in
    let l = length-append a.held.now a.piece.now in
    let p = c.requires in
    let w = subst (Claim (a.held.now ++ a.piece.now) a.i) c.in-Good.is c.claim-claimed.ensures in
    (omega arith, p.2, p.3, omega (arith, l, p.4, w.0, w.1.2, w.1.3), w.1, p.5)

pub returns : goal.returns
returns c = c.sums_in.ensures
