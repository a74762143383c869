-- `messages::read1230::mask_at` meets its contract. The mask lies within one byte, or within two. Assumes nothing.
use Prim.Native.Nat.{◌/◌, ◌+◌}
use native.Mathlib.Omega.{arith}
use Rattle.messages.proofs.Read1230Laws.{mask_in_one, mask_in_two}
use Rattle.messages.proofs.read1230.mask_at.Goals as goal

pub returns-then-o-lt5 : goal.returns-then-o-lt5
returns-then-o-lt5 c = mask_in_one _ _ _ c.from-first.ensures (omega (arith, c.type_inv.bytes (c.args.start / 8))) c.if-o-lt5.true

pub returns : goal.returns
returns c =
    mask_in_two _ _ _ c.from-first.ensures (omega (arith, c.type_inv.bytes (c.args.start / 8)))
    _ c.from.ensures (omega (arith, c.type_inv.bytes (c.args.start / 8 + 1)))
