-- `messages::read1059::read_satellites` meets its contract. The first pass decides the answer, and the second stores what it found. Assumes nothing.
use mathlib.Core.Path.{◌∙◌}
use native.Mathlib.Omega.{arith}
use Rattle.bits.proofs.RefusalLaws.{passed_on_with}
use Rattle.messages.specs.StepsRead.{put1059}
use Rattle.messages.specs.Answers.{records_of}
use Rattle.messages.proofs.CallLaws.{has_room, refuses, lacks_room, reads}
use Rattle.messages.proofs.Read1059Laws.{outcome_of, call1059}
use Rattle.messages.proofs.read1059.read_satellites.Goals as goal

pub returns-in_err-all : goal.returns-in_err-all
returns-in_err-all c =
    passed_on_with records_of _ _ _ c.from_residual.ensures.1
    ∙ refuses put1059 outcome_of (call1059 _ _ _ _ _ _ (omega arith) (omega arith)) c.in_err-all.ensures

pub returns-then-satellites-all : goal.returns-then-satellites-all
returns-then-satellites-all c = lacks_room put1059 outcome_of (call1059 _ _ _ _ _ _ (omega arith) (omega arith)) c.in_ok-all.ensures (omega arith)

pub store-requires : goal.store-requires
store-requires c = record { few = omega arith; suffices = has_room _ _ c.in_ok-all.ensures (omega arith); signals = omega arith; biases = omega arith }

pub returns : goal.returns
returns c =
    reads put1059 outcome_of (call1059 _ _ _ _ _ _ (omega arith) (omega arith)) (has_room _ _ c.in_ok-all.ensures (omega arith)) c.store.ensures
