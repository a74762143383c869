-- The run from the first to the last differing place. Assumes nothing.
use Rattle.damage.proofs.CompareLaws.{unequal, none_differs, both_differ}
use Rattle.damage.proofs.compare.compare.Goals as goal

pub returns-then-sent-received : goal.returns-then-sent-received
returns-then-sent-received c = unequal _ _ c.if-sent-received.true

pub returns-in_default : goal.returns-in_default
returns-in_default c = none_differs c.args.sent.now c.args.received.now c.if-sent-received.false c.in_default.ensures

pub returns-in_default-last : goal.returns-in_default-last
returns-in_default-last c = none_differs c.args.sent.now c.args.received.now c.if-sent-received.false c.in_default-last.ensures

pub returns : goal.returns
returns c =
    let x = c.in-Some.ensures in
    let y = c.in-Some-last.ensures in
    both_differ c.args.sent.now c.args.received.now _ _ y.0 y.1 y.2 x.1 x.2 c.if-sent-received.false
