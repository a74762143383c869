-- `messages::read1059::measure` meets its contract. What is counted so far, and what is left, are the whole. Assumes nothing.
use mathlib.Core.Path.{sym, ap, ◌∙◌}
use native.Mathlib.Omega.{arith}
use Rattle.bits.proofs.RefusalLaws.{passed_on}
use Rattle.messages.specs.StepsRead.{counts}
use Rattle.messages.specs.Answers.{records_of}
use Rattle.messages.proofs.PassLaws.{counts_none, many_all, many_none, many_counts_on, many_counts_stop}
use Rattle.messages.proofs.Read1059Laws.{few_more}
use Rattle.messages.proofs.read1059.measure.Goals as goal

pub loop-init : goal.loop-init
loop-init c = (omega arith, ap (counts 0) (many_all _ _ _))

pub returns-in_err-one : goal.returns-in_err-one
returns-in_err-one c =
    let l = c.loop in
    passed_on records_of _ _ c.from_residual.ensures.1
    ∙ sym (l.invariant.1 ∙ many_counts_stop _ _ _ _ (omega arith) l.i c.in_err-one.ensures)

pub loop-preserved : goal.loop-preserved
loop-preserved c =
    let l = c.loop in
    let e = c.in_ok-one.ensures in
    (omega (arith, few_more _ _ (omega arith) l.i e), l.invariant.1 ∙ many_counts_on _ _ _ _ (omega arith) l.i e)

pub returns : goal.returns
returns c =
    let l = c.loop in
    counts_none l.i _ l.at (many_none _ _ l.counter l.at (omega arith)) ∙ sym l.invariant.1
