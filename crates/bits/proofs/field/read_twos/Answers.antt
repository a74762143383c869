-- The unsigned reading, understood. Assumes nothing.
use mathlib.Core.Path.{◌∙◌}
use mir.Syntax.{w64}
use mir.ValLaws.{to_z-of_z}
use Rattle.bits.specs.Signed.{twos_of}
use Rattle.bits.specs.Field.{reading}
use Rattle.bits.proofs.RefusalLaws.{passed_on}
use Rattle.bits.proofs.ReadLaws.{value_as, refused_as, value_tells}
use Rattle.bits.proofs.field.read_twos.Goals as goal

pub returns-in_err-number : goal.returns-in_err-number
returns-in_err-number c =
    passed_on (λ r. reading r.0 r.1) _ _ c.from_residual.ensures.1
    ∙ refused_as (twos_of _) _ _ _ c.in_err-number.ensures

pub twos-requires : goal.twos-requires
twos-requires c = value_tells _ _ _ c.in_ok-number.ensures

pub returns : goal.returns
returns c =
    value_as (twos_of _) _ _ _ c.in_ok-number.ensures
    (to_z-of_z w64 c.twos.result (record { sfits = c.twos.type_inv }) ∙ c.twos.ensures)
