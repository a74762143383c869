-- `messages::pen::put_four` meets its contract. Four stores in a row are a field of 32 bits. Assumes nothing.
use native.Mathlib.Omega.{arith}
use Rattle.messages.proofs.PenLaws.{four_written}
use Rattle.messages.proofs.pen.put_four.Goals as goal

pub returns : goal.returns
returns c = four_written c.args.bytes.now c.args.i c.args.x (omega arith) c.requires.2
