-- `messages::write1230::Joined::with` meets its contract. The loop's invariant: the signal is not before `i`. Assumes nothing.
use mathlib.Core.Path.{sym, ap, ◌∙◌}
use mathlib.Core.Bool.{Bool, cond}
use Prim.Native.Nat.{◌+◌, ◌*◌}
use native.Mathlib.Nat.{add-zero}
use native.Mathlib.Omega.{arith}
use lib.ListN.{get_or}
use lib.IntN.{pos}
use Rattle.bits.specs.Signed.{twos_bits}
use Rattle.messages.specs.StepsWrite1230.{bias_fields1230}
use Rattle.messages.proofs.I16Laws.{same_16, all_fit}
use Rattle.messages.proofs.Signals1230Laws.{in_here, in_later, in_none}
use Rattle.messages.proofs.Fields1230Laws.{only_here, signal_later, bias_none}
use Rattle.messages.proofs.JoinLaws.{bias_joined, word_fits, joined_none}
use Rattle.messages.proofs.write1230.Joined.with.Goals as goal

pub bits_of-word-requires : goal.bits_of-word-requires
bits_of-word-requires c =
    let z = get_or c.args.biases.now c.loop-i.i (pos 0) in
    (omega arith, omega arith, rw (same_16 z (omega arith)) (all_fit z (omega arith)))

pub overflow_add-result-then-other-signal : goal.overflow_add-result-then-other-signal
overflow_add-result-then-other-signal c = omega (arith, word_fits _ _ c.requires.2 c.bits_of-word.ensures.1)

pub returns-then-other-signal : goal.returns-then-other-signal
returns-then-other-signal c =
    let l = c.loop-i in
    let z = get_or c.args.biases.now l.i (pos 0) in
    let e = c.bits_of-word.ensures.0 ∙ ap (twos_bits 16) (same_16 z (omega arith)) in
    let t = l.invariant.0 ∙ in_here c.args.signal c.args.signals.now l.i (omega arith) c.if-other-signal.true in
    let o = only_here c.args.signal c.args.signals.now c.args.biases.now c.requires.0.even l.i (omega arith) c.requires.0.single t c.if-other-signal.true l.invariant.1 in
    (ap (λ (b : Bool). c.args.self.mask * 2 + cond b 1 0) (sym t), bias_joined _ _ c.requires.2 e c.bits_of-word.ensures.1 o)

pub loop-i-preserved : goal.loop-i-preserved
loop-i-preserved c =
    let l = c.loop-i in (
      l.invariant.0 ∙ in_later c.args.signal c.args.signals.now l.i (omega arith) c.if-other-signal.false,
      l.invariant.1 ∙ signal_later c.args.signal c.args.signals.now c.args.biases.now c.requires.0.even l.i (omega arith) c.if-other-signal.false,
    )

pub returns : goal.returns
returns c =
    let l = c.loop-i in
    let t = l.invariant.0 ∙ in_none c.args.signal c.args.signals.now l.i (omega arith) in
    let m = c.args.self.mask in (
      sym (ap (λ (b : Bool). m * 2 + cond b 1 0) t ∙ add-zero (m * 2)),
      sym (joined_none _ (ap bias_fields1230 l.invariant.1 ∙ bias_none c.args.signal c.args.signals.now c.args.biases.now l.i (omega arith))),
    )
