-- Each answer is the one that the sizes, the header and the observations ask for. Assumes nothing.
use mathlib.Core.Path.{sym, ◌∙◌}
use Rattle.bits.proofs.RefusalLaws.{passed_on_with}
use Rattle.observations.proofs.ListLaws.{alike}
use Rattle.observations.proofs.WriteLaws.{too_long, uneven, wide_header, faulty}
use Rattle.observations.proofs.write.write.Goals as goal

pub returns-then-bytes-gt1023 : goal.returns-then-bytes-gt1023
returns-then-bytes-gt1023 c = too_long _ _ _ c.if-bytes-gt1023.true

pub returns-then-not-even : goal.returns-then-not-even
returns-then-not-even c = uneven _ _ _ c.if-bytes-gt1023.false (sym c.even.ensures ∙ c.if-not-even.true)

pub returns-then-not-header_fits : goal.returns-then-not-header_fits
returns-then-not-header_fits c = wide_header _ _ _ c.if-bytes-gt1023.false (sym c.even.ensures ∙ c.if-not-even.false) (sym c.header_fits.ensures ∙ c.if-not-header_fits.true)

pub invariant_of-columns : goal.invariant_of-columns
invariant_of-columns c = record { alike = alike _ (sym c.even.ensures ∙ c.if-not-even.false) }

pub write-requires : goal.write-requires
write-requires c =
    record {
      few = c.if-bytes-gt1023.false;
      same = sym c.even.ensures ∙ c.if-not-even.false;
      header = sym c.header_fits.ensures ∙ c.if-not-header_fits.false;
      faultless = sym c.in_ok-first_fault.ensures;
    }

pub returns-in_err-first_fault : goal.returns-in_err-first_fault
returns-in_err-first_fault c =
    passed_on_with (λ q. q) _ _ _ c.from_residual.ensures.1
    ∙ faulty _ _ _ c.if-bytes-gt1023.false (sym c.even.ensures ∙ c.if-not-even.false) (sym c.header_fits.ensures ∙ c.if-not-header_fits.false) c.in_err-first_fault.ensures
