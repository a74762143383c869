-- Each return is a case of what is decided at a D3. Assumes nothing.
use native.Mathlib.Omega.{arith}
use lib.ListN.{length-append}
use Rattle.frames.proofs.CandidateLaws.{length_here, candidate_few, candidate_cut, candidate_good, candidate_bad}
use Rattle.frames.proofs.scan.rtcm_at.Goals as goal

pub returns-then-left-lt6 : goal.returns-then-left-lt6
returns-then-left-lt6 c =
    let a = c.args in
    let l = length-append a.held.now a.piece.now in
    candidate_few _ a.i c.requires.2 (omega (arith, l))

pub returns-then-left-n : goal.returns-then-left-n
returns-then-left-n c =
    let a = c.args in
    let l = length-append a.held.now a.piece.now in
    candidate_cut _ a.i c.requires.2 _ (length_here _ a.i _ c.three_at.ensures.0) (omega (arith, l))

pub returns-then-sum_of-three_at : goal.returns-then-sum_of-three_at
returns-then-sum_of-three_at c =
    let a = c.args in
    let l = length-append a.held.now a.piece.now in
    candidate_good _ a.i c.requires.2 _ (length_here _ a.i _ c.three_at.ensures.0) _ _ (omega (arith, l)) c.sum_of.ensures c.three_at-2.ensures.0 c.if-sum_of-three_at.true

pub returns : goal.returns
returns c =
    let a = c.args in
    let l = length-append a.held.now a.piece.now in
    candidate_bad _ a.i c.requires.2 _ (length_here _ a.i _ c.three_at.ensures.0) _ _ (omega (arith, l)) c.sum_of.ensures c.three_at-2.ensures.0 c.if-sum_of-three_at.false
