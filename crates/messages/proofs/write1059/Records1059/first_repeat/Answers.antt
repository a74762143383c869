-- `messages::write1059::Records1059::first_repeat` meets its contract. The loop's invariant: before `i` nothing repeats, and the words tell the satellites and signals there. Assumes nothing.
use mathlib.Core.Path.{refl, sym, ◌∙◌}
use native.Mathlib.Omega.{arith}
use lib.ListN.{get_or, length-set}
use Rattle.messages.proofs.PairLaws.{looked_none, looked_here, looked_on, looked_end}
use Rattle.messages.proofs.write1059.Records1059.first_repeat.Goals as goal

pub loop-i-init : goal.loop-i-init
loop-i-init c = let a = c.args in (refl, looked_none a.self.now.satellites.now a.self.now.signals.now a.self.now.biases.now)

pub returns-then-in_mask : goal.returns-then-in_mask
returns-then-in_mask c =
    let l = c.loop-i in
    sym (looked_here c.args.self.now.satellites.now c.args.self.now.signals.now c.args.self.now.biases.now c.args.self.now.faultless.signals c.args.self.now.faultless.biases l.seen l.i l.invariant.1 (omega arith) (c.args.self.now.faultless.low l.i (omega arith)) (sym (rw c.from-a.ensures at c.in_mask.ensures) ∙ c.if-in_mask.true))

pub loop-i-preserved : goal.loop-i-preserved
loop-i-preserved c =
    let l = c.loop-i in
    let sats = c.args.self.now.satellites.now in
    let gs = c.args.self.now.signals.now in rw c.from-a.ensures (
      length-set l.seen (get_or sats l.i 0) _ ∙ l.invariant.0,
      looked_on sats gs c.args.self.now.biases.now c.args.self.now.faultless.signals c.args.self.now.faultless.biases l.seen l.i l.invariant.1 (omega arith) (c.args.self.now.faultless.low l.i (omega arith)) (sym (rw c.from-a.ensures at c.in_mask.ensures) ∙ c.if-in_mask.false) l.invariant.0 _ (rw c.from-a.ensures at c.with_number.ensures),
    )

pub returns : goal.returns
returns c =
    let a = c.args in
    let l = c.loop-i in
    sym (looked_end a.self.now.satellites.now a.self.now.signals.now a.self.now.biases.now l.seen l.i l.invariant.1 (omega arith))
