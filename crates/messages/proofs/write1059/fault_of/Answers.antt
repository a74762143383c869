-- `messages::write1059::fault_of` meets its contract. Each return has the tests that led to it. Assumes nothing.
use mathlib.Core.Path.{◌≡◌, sym, ap, ◌∙◌}
use mathlib.Core.Bool.{true}
use native.Mathlib.Omega.{arith}
use borrow.Author.Tests.{lt-ltb, le-ltb}
use mir.Syntax.{w16}
use mir.ValLaws.{to_z-of_z}
use Rattle.bits.specs.Signed.{fits_twos}
use Rattle.messages.specs.StepsTable.{in_mask}
use Rattle.messages.specs.StepsWrite1059.{fault_by}
use Rattle.messages.proofs.write1059.fault_of.Goals as goal

pub returns-then-satellite-gt63 : goal.returns-then-satellite-gt63
unfolding fault_by
returns-then-satellite-gt63 c = simp (lt-ltb _ _ c.if-satellite-gt63.true)

pub returns-then-not-known : goal.returns-then-not-known
unfolding fault_by
returns-then-not-known c = simp (le-ltb 63 c.args.satellite (omega arith), sym c.in_mask-known.ensures ∙ c.if-not-known.true)

pub returns-then-not-fits : goal.returns-then-not-fits
unfolding fault_by
returns-then-not-fits c =
    let k : in_mask c.args.mask c.args.signal ≡ true = sym c.in_mask-known.ensures ∙ assumption in
    simp (le-ltb 63 c.args.satellite (omega arith), k, sym (c.fits_bias-fits.ensures ∙ ap (fits_twos 14) (to_z-of_z w16 c.args.bias c.ranges.bias)) ∙ c.if-not-fits.true)

pub returns : goal.returns
unfolding fault_by
returns c =
    let k : in_mask c.args.mask c.args.signal ≡ true = sym c.in_mask-known.ensures ∙ assumption in
    simp (le-ltb 63 c.args.satellite (omega arith), k, sym (c.fits_bias-fits.ensures ∙ ap (fits_twos 14) (to_z-of_z w16 c.args.bias c.ranges.bias)) ∙ c.if-not-fits.false)
