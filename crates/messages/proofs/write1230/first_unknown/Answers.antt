-- `messages::write1230::first_unknown` meets its contract. The loop's invariant: the mask has each signal before `i`. Assumes nothing.
use mathlib.Core.Path.{sym, ◌∙◌}
use native.Mathlib.Omega.{arith}
use Rattle.messages.proofs.Signals1230Laws.{unknown_here, known_here, none_unknown}
use Rattle.messages.proofs.write1230.first_unknown.Goals as goal

pub returns-then-not-is_in : goal.returns-then-not-is_in
returns-then-not-is_in c =
    let l = c.loop-i in
    sym (l.invariant ∙ unknown_here c.args.signals.now l.i (omega arith) (sym c.is_in.ensures ∙ c.if-not-is_in.true))

pub loop-i-preserved : goal.loop-i-preserved
loop-i-preserved c =
    let l = c.loop-i in
    l.invariant ∙ known_here c.args.signals.now l.i (omega arith) (sym c.is_in.ensures ∙ c.if-not-is_in.false)

pub returns : goal.returns
returns c =
    let l = c.loop-i in
    sym (l.invariant ∙ none_unknown c.args.signals.now l.i (omega arith))
