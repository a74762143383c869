-- The range is one bound on the magnitude. Assumes nothing.
use mathlib.Core.Path.{sym, ap, ap₂, ◌∙◌}
use lib.Dec.{ltb}
use lib.Signed.{mag}
use mir.Syntax.{w64}
use mir.ValLaws.{to_z-of_z}
use Rattle.bits.proofs.SignedLaws.{fits_twos_lem}
use Rattle.bits.proofs.signed.fits_twos.Goals as goal

pub returns : goal.returns
returns c =
    let s = c.before.before in
    ap₂ ltb (c.mag_of.ensures ∙ ap mag (to_z-of_z w64 s.args.z s.ranges.z)) c.half_of.ensures.0
    ∙ sym (fits_twos_lem s.args.width s.args.z)
