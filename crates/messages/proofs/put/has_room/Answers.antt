-- `messages::put::has_room` meets its contract. The code subtracts where the definition adds. Assumes nothing.
use mathlib.Core.Path.{sym}
use Prim.Native.Nat.{◌+◌, ◌*◌}
use native.Mathlib.Omega.{arith}
use borrow.Author.Tests.{lt-leb}
use Rattle.formats.proofs.PutLaws.{room_test}
use Rattle.messages.proofs.put.has_room.Goals as goal

pub returns-then-all-bits : goal.returns-then-all-bits
returns-then-all-bits c =
    let a = c.args in
    sym (lt-leb (a.start + a.bits) (a.length * 8) (omega arith))

pub returns : goal.returns
returns c = room_test _ _ _ c.if-all-bits.false
