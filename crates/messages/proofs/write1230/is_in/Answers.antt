-- `messages::write1230::is_in` meets its contract. The loop's invariant: the signal is not before the place. Assumes nothing.
use mathlib.Core.Path.{sym, ◌∙◌}
use native.Mathlib.Omega.{arith}
use Rattle.messages.proofs.Signals1230Laws.{in_here, in_later, in_none}
use Rattle.messages.proofs.write1230.is_in.Goals as goal

pub returns-then-other-signal : goal.returns-then-other-signal
returns-then-other-signal c =
    let l = c.loop-other in
    sym (l.invariant ∙ in_here c.args.signal c.args.signals.now l.other-index (omega arith) c.if-other-signal.true)

pub loop-other-preserved : goal.loop-other-preserved
loop-other-preserved c =
    let l = c.loop-other in
    l.invariant ∙ in_later c.args.signal c.args.signals.now l.other-index (omega arith) c.if-other-signal.false

pub returns : goal.returns
returns c =
    let l = c.loop-other in
    sym (l.invariant ∙ in_none c.args.signal c.args.signals.now l.other-index (omega arith))
