-- Each number is held against its width. Assumes nothing.
use mathlib.Core.Path.{sym, ◌∙◌}
use native.Mathlib.Omega.{arith}
use Rattle.observations.proofs.PhaseLaws.{fits_same}
use Rattle.observations.proofs.WriteLaws.{above_63, wide_code, wide_pseudorange, wide_phase, wide_lock, no_fault}
use Rattle.observations.proofs.write.fault_of.Goals as goal

pub returns-then-seen-gt63 : goal.returns-then-seen-gt63
returns-then-seen-gt63 c = above_63 _ c.args.seen c.if-seen-gt63.true

pub returns-then-seen-gt1 : goal.returns-then-seen-gt1
returns-then-seen-gt1 c = wide_code _ c.args.seen c.if-seen-gt63.false (omega (arith, c.if-seen-gt1.true))

pub returns-then-seen-gt16777215 : goal.returns-then-seen-gt16777215
returns-then-seen-gt16777215 c = wide_pseudorange _ c.args.seen c.if-seen-gt63.false c.if-seen-gt1.false (omega (arith, c.if-seen-gt16777215.true))

pub returns-then-not-fits_phase : goal.returns-then-not-fits_phase
returns-then-not-fits_phase c =
    wide_phase _ c.args.seen c.if-seen-gt63.false c.if-seen-gt1.false c.if-seen-gt16777215.false (fits_same 20 c.args.seen.phase (omega arith) ∙ sym c.fits_phase.ensures ∙ c.if-not-fits_phase.true)

pub returns-then-seen-gt127 : goal.returns-then-seen-gt127
returns-then-seen-gt127 c =
    wide_lock _ c.args.seen c.if-seen-gt63.false c.if-seen-gt1.false c.if-seen-gt16777215.false (fits_same 20 c.args.seen.phase (omega arith) ∙ sym c.fits_phase.ensures ∙ c.if-not-fits_phase.false) (omega (arith, c.if-seen-gt127.true))

pub returns : goal.returns
returns c =
    no_fault _ c.args.seen c.if-seen-gt63.false c.if-seen-gt1.false c.if-seen-gt16777215.false (fits_same 20 c.args.seen.phase (omega arith) ∙ sym c.fits_phase.ensures ∙ c.if-not-fits_phase.false) (omega (arith, c.if-seen-gt127.false))
