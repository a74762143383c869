-- `messages::read1230::store` meets its contract. The signals of the mask are passed one by one, and the biases of those whose bit is set are stored. Assumes nothing.
use mathlib.Core.Path.{◌≡◌}
use lib.ListN.{length, drop}
use Rattle.messages.specs.Layout1230.{mask_signals, masked}
use Rattle.messages.specs.StepsRead1230.{biases_at}
use Rattle.messages.specs.StepsRead.{lists1230, put1230}
use Rattle.messages.proofs.StoreLaws.{Doing}
use Rattle.messages.proofs.read1230.store.Given as goal

abbrev pub invariant-loop-k : goal.invariant-loop-k
invariant-loop-k l =
    (length l.signals ≡ length l.initial.signals) × (length l.biases ≡ length l.initial.signals)
    × Doing put1230 0 (length l.initial.signals) (biases_at l.bytes (masked mask_signals l.mask) l.start) (lists1230 l.initial.signals l.initial.biases) l.i (biases_at l.bytes (masked (drop l.k mask_signals) l.mask) l.at) (lists1230 l.signals l.biases)
