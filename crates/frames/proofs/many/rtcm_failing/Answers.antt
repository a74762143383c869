-- Two sums of the window say that the candidate fails. Assumes nothing.
use native.Mathlib.Omega.{arith}
use Prim.Native.Nat.{◌-◌}
use lib.ListN.{length, length-append}
use Rattle.frames.proofs.ManyLaws.{both_bytes}
use Rattle.frames.proofs.PassLaws.{rtcm_fails}
use Rattle.frames.proofs.many.rtcm_failing.Goals as goal

pub data_length-n-requires : goal.data_length-n-requires
data_length-n-requires c = let a = c.args in let l = length-append a.held.now a.piece.now in omega (arith, l, c.requires.5.within, c.saturating_sub.ensures)

pub returns : goal.returns
returns c =
    let a = c.args in
    let p = c.requires in
    let n = c.data_length-n.ensures in
    rtcm_fails a.held.now a.piece.now a.sums.now a.base a.stop p.5
    (both_bytes a.held.now a.piece.now (λ k. (c.type_inv.held k).fits) (λ k. (c.type_inv.piece k).fits))
    a.i (a.i - length a.held.now) (omega (arith, p.0)) p.4 (omega (arith, c.saturating_sub.ensures)) p.3 _ n.0 n.1 c.if-sums-place.false
