-- `whole::write1059::put_front` meets its contract. The fields are put one behind the other. Assumes nothing.
use mathlib.Core.List.{[], ◌∷◌}
use native.Mathlib.Omega.{arith}
use Rattle.bits.specs.Fields.{bits}
use Rattle.formats.proofs.PutLaws.{left_all, left_fits, left_put, left_none}
use Rattle.whole.proofs.Header1059.{within, front_ends}
use Rattle.whole.proofs.write1059.put_front.Goals as goal

pub unsigned-at-requires : goal.unsigned-at-requires
unsigned-at-requires c = (left_fits (bits 12 1059 ∷ []) _ (left_all _ _ _) c.requires.0, omega arith, omega arith, omega arith)

pub unsigned-at-requires-2 : goal.unsigned-at-requires-2
unsigned-at-requires-2 c = (left_fits (bits 20 c.args.header.epoch ∷ []) _ (left_put (bits 12 1059 ∷ []) _ (left_all _ _ _) c.unsigned-at.ensures) c.requires.0, omega arith, omega arith, (within c.args.header c.requires.1).epoch)

pub unsigned-at-requires-3 : goal.unsigned-at-requires-3
unsigned-at-requires-3 c = (left_fits (bits 4 c.args.header.interval ∷ []) _ (left_put (bits 20 c.args.header.epoch ∷ []) _ (left_put (bits 12 1059 ∷ []) _ (left_all _ _ _) c.unsigned-at.ensures) c.unsigned-at-2.ensures) c.requires.0, omega arith, omega arith, (within c.args.header c.requires.1).interval)

pub unsigned-at-requires-4 : goal.unsigned-at-requires-4
unsigned-at-requires-4 c = (left_fits (bits 1 c.args.header.multiple ∷ []) _ (left_put (bits 4 c.args.header.interval ∷ []) _ (left_put (bits 20 c.args.header.epoch ∷ []) _ (left_put (bits 12 1059 ∷ []) _ (left_all _ _ _) c.unsigned-at.ensures) c.unsigned-at-2.ensures) c.unsigned-at-3.ensures) c.requires.0, omega arith, omega arith, (within c.args.header c.requires.1).multiple)

pub unsigned-at-requires-5 : goal.unsigned-at-requires-5
unsigned-at-requires-5 c = (left_fits (bits 4 c.args.header.iod ∷ []) _ (left_put (bits 1 c.args.header.multiple ∷ []) _ (left_put (bits 4 c.args.header.interval ∷ []) _ (left_put (bits 20 c.args.header.epoch ∷ []) _ (left_put (bits 12 1059 ∷ []) _ (left_all _ _ _) c.unsigned-at.ensures) c.unsigned-at-2.ensures) c.unsigned-at-3.ensures) c.unsigned-at-4.ensures) c.requires.0, omega arith, omega arith, (within c.args.header c.requires.1).iod)

pub unsigned-at-requires-6 : goal.unsigned-at-requires-6
unsigned-at-requires-6 c = (left_fits (bits 16 c.args.header.provider ∷ []) _ (left_put (bits 4 c.args.header.iod ∷ []) _ (left_put (bits 1 c.args.header.multiple ∷ []) _ (left_put (bits 4 c.args.header.interval ∷ []) _ (left_put (bits 20 c.args.header.epoch ∷ []) _ (left_put (bits 12 1059 ∷ []) _ (left_all _ _ _) c.unsigned-at.ensures) c.unsigned-at-2.ensures) c.unsigned-at-3.ensures) c.unsigned-at-4.ensures) c.unsigned-at-5.ensures) c.requires.0, omega arith, omega arith, (within c.args.header c.requires.1).provider)

pub unsigned-end-requires : goal.unsigned-end-requires
unsigned-end-requires c = (left_fits (bits 4 c.args.header.solution ∷ []) _ (left_put (bits 16 c.args.header.provider ∷ []) _ (left_put (bits 4 c.args.header.iod ∷ []) _ (left_put (bits 1 c.args.header.multiple ∷ []) _ (left_put (bits 4 c.args.header.interval ∷ []) _ (left_put (bits 20 c.args.header.epoch ∷ []) _ (left_put (bits 12 1059 ∷ []) _ (left_all _ _ _) c.unsigned-at.ensures) c.unsigned-at-2.ensures) c.unsigned-at-3.ensures) c.unsigned-at-4.ensures) c.unsigned-at-5.ensures) c.unsigned-at-6.ensures) c.requires.0, omega arith, omega arith, (within c.args.header c.requires.1).solution)

pub returns : goal.returns
returns c = front_ends (left_none (left_put (bits 4 c.args.header.solution ∷ []) _ (left_put (bits 16 c.args.header.provider ∷ []) _ (left_put (bits 4 c.args.header.iod ∷ []) _ (left_put (bits 1 c.args.header.multiple ∷ []) _ (left_put (bits 4 c.args.header.interval ∷ []) _ (left_put (bits 20 c.args.header.epoch ∷ []) _ (left_put (bits 12 1059 ∷ []) _ (left_all _ _ _) c.unsigned-at.ensures) c.unsigned-at-2.ensures) c.unsigned-at-3.ensures) c.unsigned-at-4.ensures) c.unsigned-at-5.ensures) c.unsigned-at-6.ensures) c.unsigned-end.ensures))
