-- `messages::write1059::first_fault` meets its contract. The loop's invariant: no record before `i` has a fault. Assumes nothing.
use mathlib.Core.Path.{sym, ap, ◌∙◌}
use native.Mathlib.Omega.{arith}
use lib.ListN.{get_or}
use lib.IntN.{pos}
use Rattle.bits.proofs.RefusalLaws.{passed_on}
use Rattle.messages.specs.Records.{rec1059}
use Rattle.messages.specs.StepsWrite1059.{fault_by}
use Rattle.messages.proofs.I16Laws.{same_16}
use Rattle.messages.proofs.FaultLaws.{fault_here, fine_here, no_more}
use Rattle.messages.proofs.write1059.first_fault.Goals as goal

pub returns-in_err-fault_of : goal.returns-in_err-fault_of
returns-in_err-fault_of c =
    let a = c.args in
    let l = c.loop-i in
    let z = same_16 (get_or a.biases.now l.i (pos 0)) (omega arith) in
    passed_on (λ u. u) _ _ c.from_residual.ensures.1
    ∙ sym (l.invariant ∙ fault_here a.mask a.satellites.now a.signals.now a.biases.now c.requires.0 c.requires.1 l.i (omega arith) (sym (c.in_err-fault_of.ensures ∙ ap (λ x. fault_by a.mask l.i (rec1059 (get_or a.satellites.now l.i 0) (get_or a.signals.now l.i 0) x)) z)))

pub loop-i-preserved : goal.loop-i-preserved
loop-i-preserved c =
    let a = c.args in
    let l = c.loop-i in
    let z = same_16 (get_or a.biases.now l.i (pos 0)) (omega arith) in
    l.invariant ∙ fine_here a.mask a.satellites.now a.signals.now a.biases.now c.requires.0 c.requires.1 l.i (omega arith) (sym (c.in_ok-fault_of.ensures ∙ ap (λ x. fault_by a.mask l.i (rec1059 (get_or a.satellites.now l.i 0) (get_or a.signals.now l.i 0) x)) z))

pub returns : goal.returns
returns c =
    let a = c.args in
    let l = c.loop-i in
    sym (l.invariant ∙ no_more a.mask a.satellites.now a.signals.now a.biases.now l.i (omega arith))
