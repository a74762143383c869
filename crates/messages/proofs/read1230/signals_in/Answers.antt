-- `messages::read1230::signals_in` meets its contract. Each set bit of the mask is one signal. Assumes nothing.
use native.Mathlib.Omega.{arith}
use Rattle.messages.proofs.Read1230Laws.{masked_length}
use Rattle.messages.proofs.read1230.signals_in.Goals as goal

pub returns : goal.returns
returns c = (masked_length _, omega arith)
