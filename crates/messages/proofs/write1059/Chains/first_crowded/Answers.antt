-- `messages::write1059::Chains::first_crowded` meets its contract. The loop's invariant: no count before `a` is over 31. Assumes nothing.
use mathlib.Core.Path.{sym, ◌∙◌}
use native.Mathlib.Omega.{arith}
use Rattle.messages.proofs.CrowdLaws.{over_here, not_here, not_over}
use Rattle.messages.proofs.write1059.Chains.first_crowded.Goals as goal

pub returns-then-count-gt31 : goal.returns-then-count-gt31
returns-then-count-gt31 c =
    let l = c.loop-a in
    sym (l.invariant ∙ over_here c.args.self.now.counts l.a (omega arith) c.if-count-gt31.true)

pub loop-a-preserved : goal.loop-a-preserved
loop-a-preserved c =
    let l = c.loop-a in
    l.invariant ∙ not_here c.args.self.now.counts l.a (omega arith) c.if-count-gt31.false

pub returns : goal.returns
returns c =
    let l = c.loop-a in
    sym (l.invariant ∙ not_over c.args.self.now.counts l.a (omega arith))
