-- The unsigned reading, understood. Assumes nothing.
use borrow.Author.Rules.{rules}
use mathlib.Core.Path.{◌∙◌}
use Rattle.bits.specs.Signed.{signmag_of}
use Rattle.bits.specs.Field.{reading}
use Rattle.bits.proofs.RefusalLaws.{passed_on}
use Rattle.bits.proofs.ReadLaws.{value_as, refused_as, value_tells}
use Rattle.bits.proofs.field.read_signmag.Goals as goal

pub returns-in_err-number : goal.returns-in_err-number
returns-in_err-number c =
    passed_on (λ r. reading r.0 r.1) _ _ c.from_residual.ensures.1
    ∙ refused_as (signmag_of _) _ _ _ c.in_err-number.ensures

pub signmag-requires : goal.signmag-requires
signmag-requires c = value_tells _ _ _ c.in_ok-number.ensures

pub returns : goal.returns
returns c = value_as (signmag_of _) _ _ _ c.in_ok-number.ensures (search rules)
