-- Each return has the tests that led to it. Assumes nothing.
use native.Mathlib.Omega.{arith}
use borrow.Author.Tests.{lt-ltb, le-ltb, eq-eqb, ne_eqb}
use Rattle.bits.specs.Steps.{limits_of}
use Rattle.bits.proofs.field.within_limits.Goals as goal

pub returns-then-n-gt1023 : goal.returns-then-n-gt1023
unfolding limits_of
returns-then-n-gt1023 c = simp (lt-ltb _ _ c.if-n-gt1023.true)

pub returns-then-width-eq0 : goal.returns-then-width-eq0
unfolding limits_of
returns-then-width-eq0 c = simp (le-ltb 1023 c.args.n (omega arith), eq-eqb _ _ c.if-width-eq0.true)

pub returns-then-width-lt65 : goal.returns-then-width-lt65
unfolding limits_of
returns-then-width-lt65 c = simp (le-ltb _ _ c.if-n-gt1023.false, ne_eqb _ _ c.if-width-eq0.false, le-ltb 64 c.args.width (omega arith))

pub returns : goal.returns
unfolding limits_of
returns c = simp (le-ltb _ _ c.if-n-gt1023.false, ne_eqb _ _ c.if-width-eq0.false, lt-ltb 64 c.args.width (omega arith))
