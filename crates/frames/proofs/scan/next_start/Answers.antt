-- The first start byte stands in the held bytes, or else in the piece. Assumes nothing.
use native.Mathlib.Omega.{arith}
use Rattle.frames.specs.Steps.{starts_in, number_of}
use Rattle.frames.proofs.CandidateLaws.{start_right, start_left, start_both}
use Rattle.frames.proofs.scan.next_start.Goals as goal

pub returns-then-h-i : goal.returns-then-h-i
returns-then-h-i c = let a = c.args in start_right (starts_in (number_of a.mode)) a.held.now a.piece.now _ _ (omega arith) c.next_in.ensures

pub returns-then-j-h : goal.returns-then-j-h
returns-then-j-h c = let a = c.args in start_left (starts_in (number_of a.mode)) a.held.now a.piece.now _ _ (omega arith) c.next_in-j.ensures

pub returns : goal.returns
returns c = let a = c.args in start_both (starts_in (number_of a.mode)) a.held.now a.piece.now _ _ _ (omega arith) c.next_in-j.ensures c.next_in-2.ensures
