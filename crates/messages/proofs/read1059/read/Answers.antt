-- `messages::read1059::read` meets its contract. The number of satellites is read, and they lie behind it. Assumes nothing.
use mathlib.Core.Path.{sym, ◌∙◌}
use native.Mathlib.Omega.{arith}
use Rattle.bits.proofs.ReadLaws.{taken}
use Rattle.bits.proofs.RefusalLaws.{passed_on_with}
use Rattle.messages.specs.Answers.{records_of}
use Rattle.messages.proofs.Read1059Laws.{too_long, uneven, uneven_2, count_cut, count_read}
use Rattle.messages.proofs.read1059.read.Goals as goal

pub returns-then-bytes-gt1023 : goal.returns-then-bytes-gt1023
returns-then-bytes-gt1023 c = too_long _ _ _ _ _ (omega arith)

pub returns-then-satellites-signals : goal.returns-then-satellites-signals
returns-then-satellites-signals c = uneven _ _ _ _ _ (omega arith) c.if-satellites-signals.true

pub returns-then-satellites-biases : goal.returns-then-satellites-biases
returns-then-satellites-biases c = uneven_2 _ _ _ _ _ (omega arith) c.if-satellites-signals.false c.if-satellites-biases.true

pub returns-in_err-n : goal.returns-in_err-n
returns-in_err-n c =
    passed_on_with records_of _ _ _ c.from_residual.ensures.1
    ∙ count_cut _ _ _ _ _ (omega arith) c.if-satellites-signals.false c.if-satellites-biases.false (sym c.in_err-n.ensures)

pub read_satellites-requires : goal.read_satellites-requires
read_satellites-requires c =
    let t = taken _ _ 6 (sym c.in_ok-n.ensures) in
    (omega arith, omega arith, omega arith, omega arith)

pub returns : goal.returns
returns c =
    c.read_satellites.ensures
    ∙ count_read _ _ _ _ _ (omega arith) c.if-satellites-signals.false c.if-satellites-biases.false (sym c.in_ok-n.ensures)
