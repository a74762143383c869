-- `whole::write1230::put_front` meets its contract. The fields are put one behind the other. Assumes nothing.
use mathlib.Core.List.{[], ◌∷◌}
use native.Mathlib.Omega.{arith}
use Rattle.bits.specs.Fields.{bits}
use Rattle.formats.proofs.PutLaws.{left_all, left_fits, left_put, left_none}
use Rattle.whole.proofs.Header1230.{within, front_ends}
use Rattle.whole.proofs.write1230.put_front.Goals as goal

pub unsigned-at-requires : goal.unsigned-at-requires
unsigned-at-requires c = (left_fits (bits 12 1230 ∷ []) _ (left_all _ _ _) c.requires.0, omega arith, omega arith, omega arith)

pub unsigned-at-requires-2 : goal.unsigned-at-requires-2
unsigned-at-requires-2 c = (left_fits (bits 12 c.args.header.station ∷ []) _ (left_put (bits 12 1230 ∷ []) _ (left_all _ _ _) c.unsigned-at.ensures) c.requires.0, omega arith, omega arith, (within c.args.header c.requires.1).station)

pub unsigned-at-requires-3 : goal.unsigned-at-requires-3
unsigned-at-requires-3 c = (left_fits (bits 1 c.args.header.indicator ∷ []) _ (left_put (bits 12 c.args.header.station ∷ []) _ (left_put (bits 12 1230 ∷ []) _ (left_all _ _ _) c.unsigned-at.ensures) c.unsigned-at-2.ensures) c.requires.0, omega arith, omega arith, (within c.args.header c.requires.1).indicator)

pub unsigned-end-requires : goal.unsigned-end-requires
unsigned-end-requires c = (left_fits (bits 3 c.args.header.reserved ∷ []) _ (left_put (bits 1 c.args.header.indicator ∷ []) _ (left_put (bits 12 c.args.header.station ∷ []) _ (left_put (bits 12 1230 ∷ []) _ (left_all _ _ _) c.unsigned-at.ensures) c.unsigned-at-2.ensures) c.unsigned-at-3.ensures) c.requires.0, omega arith, omega arith, (within c.args.header c.requires.1).reserved)

pub returns : goal.returns
returns c = front_ends (left_none (left_put (bits 3 c.args.header.reserved ∷ []) _ (left_put (bits 1 c.args.header.indicator ∷ []) _ (left_put (bits 12 c.args.header.station ∷ []) _ (left_put (bits 12 1230 ∷ []) _ (left_all _ _ _) c.unsigned-at.ensures) c.unsigned-at-2.ensures) c.unsigned-at-3.ensures) c.unsigned-end.ensures))
