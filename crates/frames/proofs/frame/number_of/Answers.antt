-- The first two bytes hold the number. Assumes nothing.
use mathlib.Core.Path.{refl}
use native.Mathlib.Omega.{arith}
use Rattle.frames.proofs.FrameLaws.{number_absent, number_is}
use Rattle.frames.proofs.frame.number_of.Goals as goal

pub returns-then-data-lt2 : goal.returns-then-data-lt2
returns-then-data-lt2 c = number_absent c.args.«data».now (omega arith)

pub returns : goal.returns
returns c =
    let d = c.args.«data».now in
    number_is d _ _ (omega arith) refl refl (c.type_inv.«data» 0).fits (c.type_inv.«data» 1).fits
