-- `messages::read1230::store` meets its contract. The signals of the mask are passed one by one, and the biases of those whose bit is set are stored. Assumes nothing.
use mathlib.Core.Path.{refl}
use native.Mathlib.Omega.{arith}
use Rattle.messages.specs.Layout1230.{mask_signals}
use Rattle.messages.specs.StepsRead.{put1230}
use Rattle.messages.proofs.StoreLaws.{begun, left_as, done, put1230_none}
use Rattle.messages.proofs.Read1230Laws.{masked_lacks, masked_none, signal_suffices, signal_stored}
use Rattle.messages.proofs.read1230.store.Goals as goal

pub loop-k-init : goal.loop-k-init
loop-k-init c =
    let r = c.requires in
    (refl, r.biases, begun put1230 r.suffices)

pub loop-k-preserved-then-mask-k-eq0 : goal.loop-k-preserved-then-mask-k-eq0
loop-k-preserved-then-mask-k-eq0 c =
    let l = c.loop-k in
    (l.invariant.0, l.invariant.1, left_as put1230 l.invariant.2 (masked_lacks _ l.k _ l.at (omega arith) c.if-mask-k-eq0.true))

pub store_bias-one-requires : goal.store_bias-one-requires
store_bias-one-requires c =
    let l = c.loop-k in
    record {
      few = c.requires.few;
      suffices = rw l.invariant.0 (signal_suffices _ mask_signals l.k _ l.at refl (omega arith) c.if-mask-k-eq0.false l.i l.invariant.2);
      biases = omega arith;
    }

pub loop-k-preserved : goal.loop-k-preserved
loop-k-preserved c =
    let l = c.loop-k in (
      omega arith,
      omega arith,
      signal_stored _ mask_signals l.k _ l.at refl (omega arith) c.if-mask-k-eq0.false l.i l.invariant.2 c.store_bias-one.ensures,
    )

pub returns : goal.returns
returns c =
    let l = c.loop-k in
    (done put1230 l.invariant.2 put1230_none (masked_none _ l.k _ l.at (omega arith) (omega arith))).lists
