-- The loop has passed neither D3 nor B5. Assumes nothing.
use native.Mathlib.Omega.{arith}
use borrow.Author.Count.{below_more}
use Rattle.frames.proofs.StartLaws.{b5_starts, d3_starts, none_starts}
use Rattle.frames.proofs.scan.near_either.Goals as goal

pub loop-i-init : goal.loop-i-init
loop-i-init c = λ k a b. absurd (omega arith)

pub returns-then-part-i : goal.returns-then-part-i
returns-then-part-i c =
    record { from = omega arith; within = omega arith; none = c.loop-i.invariant; there = λ a. b5_starts _ c.if-part-i.true }

pub returns-then-part-i-2 : goal.returns-then-part-i-2
returns-then-part-i-2 c =
    record { from = omega arith; within = omega arith; none = c.loop-i.invariant; there = λ a. d3_starts _ c.if-part-i-2.true }

pub loop-i-preserved : goal.loop-i-preserved
loop-i-preserved c =
    below_more _ _ c.loop-i.invariant (λ a. none_starts _ c.if-part-i.false c.if-part-i-2.false)

pub returns : goal.returns
returns c =
    record { from = omega arith; within = omega arith; none = λ k a b. c.loop-i.invariant k (omega arith) b; there = λ a. absurd (omega arith) }
