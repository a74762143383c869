-- The loop's invariant: no observation before `i` has a fault. Assumes nothing.
use mathlib.Core.Path.{sym, ap, ◌∙◌}
use Rattle.bits.proofs.RefusalLaws.{passed_on}
use Rattle.formats.specs.Written.{first_fault}
use Rattle.formats.proofs.WrittenLaws.{fault_none}
use Rattle.observations.specs.Write1001.{fault1001}
use Rattle.observations.proofs.ListLaws.{rows_all, rows_none}
use Rattle.observations.proofs.WriteLaws.{turn_fault, turn_fine}
use Rattle.observations.proofs.write.Columns.first_fault.Goals as goal

pub loop-i-init : goal.loop-i-init
loop-i-init c = ap (first_fault fault1001 0) (rows_all _ _)

pub returns-in_err-fault_of : goal.returns-in_err-fault_of
returns-in_err-fault_of c =
    passed_on (λ u. u) _ _ c.from_residual.ensures.1
    ∙ sym (c.loop-i.invariant ∙ turn_fault _ _ _ c.loop-i-test.true _ c.row.ensures c.in_err-fault_of.ensures)

pub loop-i-preserved : goal.loop-i-preserved
loop-i-preserved c = c.loop-i.invariant ∙ turn_fine _ _ _ c.loop-i-test.true _ c.row.ensures c.in_ok-fault_of.ensures

pub returns : goal.returns
returns c = sym (c.loop-i.invariant ∙ ap (first_fault fault1001 _) (rows_none _ _ _ c.loop-i-test.false) ∙ fault_none fault1001 _)
