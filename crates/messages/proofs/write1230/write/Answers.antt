-- `messages::write1230::write` meets its contract. Sizes are refused, and lists within them are written. Assumes nothing.
use Rattle.messages.proofs.Write1230Laws.{long_data, uneven_lists, many_records}
use Rattle.messages.proofs.write1230.write.Goals as goal

pub returns-then-bytes-gt1023 : goal.returns-then-bytes-gt1023
returns-then-bytes-gt1023 c =
    let a = c.args in
    long_data a.bytes.now a.start a.signals.now a.biases.now c.if-bytes-gt1023.true

pub returns-then-signals-biases : goal.returns-then-signals-biases
returns-then-signals-biases c =
    let a = c.args in
    uneven_lists a.bytes.now a.start a.signals.now a.biases.now c.if-bytes-gt1023.false c.if-signals-biases.true

pub returns-then-signals-gt4 : goal.returns-then-signals-gt4
returns-then-signals-gt4 c =
    let a = c.args in
    many_records a.bytes.now a.start a.signals.now a.biases.now c.if-bytes-gt1023.false c.if-signals-biases.false c.if-signals-gt4.true
