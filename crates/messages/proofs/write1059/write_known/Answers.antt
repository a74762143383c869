-- `messages::write1059::write_known` meets its contract. Each answer is the one that the sizes and the first fault ask for. Assumes nothing.
use mathlib.Core.Path.{◌∙◌}
use Rattle.bits.proofs.RefusalLaws.{passed_on_with}
use Rattle.messages.specs.StepsEdition.{edition_of}
use Rattle.messages.proofs.FaultLaws.{first_fault_is, sound}
use Rattle.messages.proofs.Write1059Laws.{long_data, uneven_signals, uneven_biases, many_records, some_fault, no_fault}
use Rattle.messages.proofs.write1059.write_known.Goals as goal

pub returns-then-bytes-gt1023 : goal.returns-then-bytes-gt1023
returns-then-bytes-gt1023 c =
    let a = c.args in
    long_data (edition_of a.edition) a.bytes.now a.start a.satellites.now a.signals.now a.biases.now c.if-bytes-gt1023.true

pub returns-then-n-signals : goal.returns-then-n-signals
returns-then-n-signals c =
    let a = c.args in
    uneven_signals (edition_of a.edition) a.bytes.now a.start a.satellites.now a.signals.now a.biases.now c.if-bytes-gt1023.false c.if-n-signals.true

pub returns-then-n-biases : goal.returns-then-n-biases
returns-then-n-biases c =
    let a = c.args in
    uneven_biases (edition_of a.edition) a.bytes.now a.start a.satellites.now a.signals.now a.biases.now c.if-bytes-gt1023.false c.if-n-signals.false c.if-n-biases.true

pub returns-then-n-gt1953 : goal.returns-then-n-gt1953
returns-then-n-gt1953 c =
    let a = c.args in
    many_records (edition_of a.edition) a.bytes.now a.start a.satellites.now a.signals.now a.biases.now c.if-bytes-gt1023.false c.if-n-signals.false c.if-n-biases.false c.if-n-gt1953.true

pub returns-in_err-first_fault : goal.returns-in_err-first_fault
returns-in_err-first_fault c =
    let a = c.args in
    passed_on_with (λ q. q) _ _ _ c.from_residual.ensures.1
    ∙ some_fault (edition_of a.edition) a.bytes.now a.start a.satellites.now a.signals.now a.biases.now c.if-bytes-gt1023.false c.if-n-signals.false c.if-n-biases.false c.if-n-gt1953.false
    (first_fault_is (edition_of a.edition) _ _ _ c.mask.ensures c.in_err-first_fault.ensures)

pub invariant_of-records : goal.invariant_of-records
invariant_of-records c =
    let a = c.args in
    record {
      faultless = sound (edition_of a.edition) a.satellites.now a.signals.now a.biases.now c.if-n-signals.false c.if-n-biases.false c.if-n-gt1953.false
          (first_fault_is (edition_of a.edition) _ _ _ c.mask.ensures c.in_ok-first_fault.ensures);
    }

pub returns : goal.returns
returns c =
    let a = c.args in
    c.write.ensures
    ∙ no_fault (edition_of a.edition) a.bytes.now a.start a.satellites.now a.signals.now a.biases.now c.if-bytes-gt1023.false c.if-n-signals.false c.if-n-biases.false c.if-n-gt1953.false
    (first_fault_is (edition_of a.edition) _ _ _ c.mask.ensures c.in_ok-first_fault.ensures)
