-- The listing of the first bytes, with as many places as the shorter list has. Assumes nothing.
use native.Mathlib.Omega.{arith}
use Rattle.frames.proofs.ListLaws.{not_more, lists_first}
use Rattle.frames.proofs.list.frames_across.Goals as goal

pub list_plain-requires : goal.list_plain-requires
list_plain-requires c =
    record {
      held = not_more 1029 _ _ c.min-h.ensures;
      piece = not_more 65536 _ _ c.min-n.ensures;
      starts = omega (arith, c.min-room.ensures);
      lengths = omega (arith, c.min-room.ensures);
    }

pub returns : goal.returns
returns c = let a = c.args in lists_first a.mode a.held.now a.piece.now a.starts.now a.lengths.now _ _ _ c.min-h.ensures c.min-n.ensures c.min-room.ensures (rw c.of-mode.ensures at c.list_plain.ensures)
