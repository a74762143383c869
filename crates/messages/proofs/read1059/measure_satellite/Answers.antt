-- `messages::read1059::measure_satellite` meets its contract. Its number and its bias count are read, and its biases are measured. Assumes nothing.
use mathlib.Core.Path.{sym, ap, ◌∙◌}
use native.Mathlib.Omega.{arith}
use Rattle.bits.proofs.ReadLaws.{taken}
use Rattle.bits.proofs.RefusalLaws.{passed_on}
use Rattle.messages.specs.StepsRead.{counts}
use Rattle.messages.specs.Answers.{records_of}
use Rattle.messages.proofs.PassLaws.{counts_refused}
use Rattle.messages.proofs.Read1059Laws.{satellite_cut, satellite_cut_2, satellite_read}
use Rattle.messages.proofs.read1059.measure_satellite.Goals as goal

pub returns-in_err-at : goal.returns-in_err-at
returns-in_err-at c =
    passed_on records_of _ _ c.from_residual.ensures.1
    ∙ counts_refused _ (satellite_cut _ _ (sym c.in_err-at.ensures))

pub returns-in_err-n : goal.returns-in_err-n
returns-in_err-n c =
    passed_on records_of _ _ c.from_residual-in_err-n.ensures.1
    ∙ counts_refused _ (satellite_cut_2 _ _ (sym c.in_ok-at.ensures) (sym c.in_err-n.ensures))

pub measure_biases-requires : goal.measure_biases-requires
measure_biases-requires c =
    let t = taken _ _ 5 (sym c.in_ok-n.ensures) in
    (omega arith, omega arith, omega arith, omega arith)

pub returns : goal.returns
returns c = c.measure_biases.ensures _ ∙ ap (counts _) (sym (satellite_read _ _ (sym c.in_ok-at.ensures) (sym c.in_ok-n.ensures)))
