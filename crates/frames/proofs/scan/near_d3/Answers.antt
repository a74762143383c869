-- The loop has passed no D3. Assumes nothing.
use native.Mathlib.Omega.{arith}
use borrow.Author.Count.{below_more}
use borrow.Author.Tests.{eq-eqb, ne_eqb}
use Rattle.frames.proofs.scan.near_d3.Goals as goal

pub loop-i-init : goal.loop-i-init
loop-i-init c = λ k a b. absurd (omega arith)

pub returns-then-part-i : goal.returns-then-part-i
returns-then-part-i c =
    record { from = omega arith; within = omega arith; none = c.loop-i.invariant; there = λ a. eq-eqb _ _ c.if-part-i.true }

pub loop-i-preserved : goal.loop-i-preserved
loop-i-preserved c =
    below_more _ _ c.loop-i.invariant (λ a. ne_eqb _ _ c.if-part-i.false)

pub returns : goal.returns
returns c =
    record { from = omega arith; within = omega arith; none = λ k a b. c.loop-i.invariant k (omega arith) b; there = λ a. absurd (omega arith) }
