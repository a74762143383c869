-- Each return is a case of what is decided at a D3; two tails of the window say whether the sums agree. Assumes nothing.
use mathlib.Core.List.{◌++◌}
use native.Mathlib.Omega.{arith}
use lib.ListN.{length-append}
use Rattle.frames.proofs.CandidateLaws.{length_here, candidate_few, candidate_cut}
use Rattle.frames.proofs.ManyLaws.{both_bytes, window_good, window_bad}
use Rattle.frames.proofs.many.rtcm_in.Goals as goal

pub returns-then-left-lt6 : goal.returns-then-left-lt6
returns-then-left-lt6 c =
    let a = c.args in
    candidate_few _ a.i c.requires.2 (omega (arith, length-append a.held.now a.piece.now))

pub returns-then-left-n : goal.returns-then-left-n
returns-then-left-n c =
    let a = c.args in
    candidate_cut _ a.i c.requires.2 _ (length_here _ a.i _ c.three_at.ensures.0) (omega (arith, length-append a.held.now a.piece.now))

pub returns-then-sums-k : goal.returns-then-sums-k
returns-then-sums-k c =
    let a = c.args in
    window_good (a.held.now ++ a.piece.now) a.sums.now a.base a.stop c.requires.5
    (both_bytes a.held.now a.piece.now (λ k. (c.type_inv.held k).fits) (λ k. (c.type_inv.piece k).fits))
    a.i _ c.requires.3 (omega (arith, c.requires.4)) c.requires.2 (length_here _ a.i _ c.three_at.ensures.0) c.if-sums-k.true

pub returns : goal.returns
returns c =
    let a = c.args in
    window_bad (a.held.now ++ a.piece.now) a.sums.now a.base a.stop c.requires.5
    (both_bytes a.held.now a.piece.now (λ k. (c.type_inv.held k).fits) (λ k. (c.type_inv.piece k).fits))
    a.i _ c.requires.3 (omega (arith, c.requires.4)) c.requires.2 (length_here _ a.i _ c.three_at.ensures.0) c.if-sums-k.false
