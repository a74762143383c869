-- The fields are put one behind the other. Assumes nothing.
use mathlib.Core.List.{[], ◌∷◌}
use native.Mathlib.Omega.{arith}
use Rattle.bits.specs.Signed.{twos_bits}
use Rattle.bits.specs.Fields.{bits}
use Rattle.formats.proofs.PutLaws.{left_all, left_fits, left_put, left_none}
use Rattle.observations.proofs.MessageLaws.{row_within, row_phase}
use Rattle.observations.proofs.write.put_row.Goals as goal

pub unsigned-at-requires : goal.unsigned-at-requires
unsigned-at-requires c = rw c.from.ensures (left_fits (bits 6 c.args.seen.satellite ∷ []) _ (left_all _ _ _) c.requires.0, omega arith, omega arith, (row_within c.args.seen c.requires.1).satellite)

pub unsigned-at-requires-2 : goal.unsigned-at-requires-2
unsigned-at-requires-2 c = rw c.from-2.ensures (left_fits (bits 1 c.args.seen.code ∷ []) _ (left_put (bits 6 c.args.seen.satellite ∷ []) _ (left_all _ _ _) (rw c.from.ensures at c.unsigned-at.ensures)) c.requires.0, omega arith, omega arith, (row_within c.args.seen c.requires.1).code)

pub unsigned-at-requires-3 : goal.unsigned-at-requires-3
unsigned-at-requires-3 c = (left_fits (bits 24 c.args.seen.pseudorange ∷ []) _ (left_put (bits 1 c.args.seen.code ∷ []) _ (left_put (bits 6 c.args.seen.satellite ∷ []) _ (left_all _ _ _) (rw c.from.ensures at c.unsigned-at.ensures)) (rw c.from-2.ensures at c.unsigned-at-2.ensures)) c.requires.0, omega arith, omega arith, (row_within c.args.seen c.requires.1).pseudorange)

pub twos-at-requires : goal.twos-at-requires
twos-at-requires c = rw (row_phase c.args.seen c.requires.1) (left_fits (bits 20 (twos_bits 20 c.args.seen.phase) ∷ []) _ (left_put (bits 24 c.args.seen.pseudorange ∷ []) _ (left_put (bits 1 c.args.seen.code ∷ []) _ (left_put (bits 6 c.args.seen.satellite ∷ []) _ (left_all _ _ _) (rw c.from.ensures at c.unsigned-at.ensures)) (rw c.from-2.ensures at c.unsigned-at-2.ensures)) c.unsigned-at-3.ensures) c.requires.0, omega arith, omega arith, (row_within c.args.seen c.requires.1).phase)

pub unsigned-requires : goal.unsigned-requires
unsigned-requires c = rw c.from-3.ensures (left_fits (bits 7 c.args.seen.lock ∷ []) _ (left_put (bits 20 (twos_bits 20 c.args.seen.phase) ∷ []) _ (left_put (bits 24 c.args.seen.pseudorange ∷ []) _ (left_put (bits 1 c.args.seen.code ∷ []) _ (left_put (bits 6 c.args.seen.satellite ∷ []) _ (left_all _ _ _) (rw c.from.ensures at c.unsigned-at.ensures)) (rw c.from-2.ensures at c.unsigned-at-2.ensures)) c.unsigned-at-3.ensures) (rw (row_phase c.args.seen c.requires.1) at c.twos-at.ensures)) c.requires.0, omega arith, omega arith, (row_within c.args.seen c.requires.1).lock)

pub returns : goal.returns
returns c = left_none (left_put (bits 7 c.args.seen.lock ∷ []) _ (left_put (bits 20 (twos_bits 20 c.args.seen.phase) ∷ []) _ (left_put (bits 24 c.args.seen.pseudorange ∷ []) _ (left_put (bits 1 c.args.seen.code ∷ []) _ (left_put (bits 6 c.args.seen.satellite ∷ []) _ (left_all _ _ _) (rw c.from.ensures at c.unsigned-at.ensures)) (rw c.from-2.ensures at c.unsigned-at-2.ensures)) c.unsigned-at-3.ensures) (rw (row_phase c.args.seen c.requires.1) at c.twos-at.ensures)) (rw c.from-3.ensures at c.unsigned.ensures))
