-- `messages::read1059::store_biases` meets its contract. The biases are stored one behind the other. Assumes nothing.
use mathlib.Core.Path.{refl}
use native.Mathlib.Omega.{arith}
use Rattle.messages.specs.StepsRead.{put1059}
use Rattle.messages.proofs.PassLaws.{many_all}
use Rattle.messages.proofs.StoreLaws.{begun, left_as, turn_suffices, turn_stored, turns_done, put1059_none, put1059_on}
use Rattle.messages.proofs.read1059.store_biases.Goals as goal

pub loop-init : goal.loop-init
loop-init c =
    let r = c.requires in
    (refl, r.signals, r.biases, left_as put1059 (begun put1059 r.suffices) (many_all _ _ _))

pub store_bias-one-requires : goal.store_bias-one-requires
store_bias-one-requires c =
    let l = c.loop in
    record {
      few = c.requires.few;
      suffices = rw l.invariant.0 (turn_suffices put1059 _ _ l.counter l.at l.i l.invariant.3 (omega arith));
      signals = omega arith;
      biases = omega arith;
    }

pub loop-preserved : goal.loop-preserved
loop-preserved c =
    let l = c.loop in (
      omega arith,
      omega arith,
      omega arith,
      turn_stored put1059 _ _ l.counter l.at l.i l.invariant.3 (omega arith) put1059_on c.store_bias-one.ensures,
    )

pub returns : goal.returns
returns c =
    let l = c.loop in
    turns_done put1059 _ _ l.counter l.at l.i l.invariant.3 (omega arith) put1059_none
