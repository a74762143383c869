-- Each answer is the one that the limits and the place ask for. Assumes nothing.
use mathlib.Core.Path.{sym, ap, ◌∙◌}
use Prim.Native.Nat.{ℕ, ◌+◌}
use native.Mathlib.Omega.{arith}
use Rattle.bits.specs.Told.{Accepted, Refused}
use Rattle.bits.specs.Refusals.{number_of, carried_by}
use Rattle.bits.specs.Field.{reading}
use Rattle.bits.proofs.LimitLaws.{kept}
use Rattle.bits.proofs.RefusalLaws.{passed_on}
use Rattle.bits.proofs.ReadLaws.{read_refused, read_short, read_value}
use Rattle.bits.proofs.field.read_unsigned.Goals as goal

pub returns-in_err-within_limits : goal.returns-in_err-within_limits
returns-in_err-within_limits c =
    passed_on (λ r. reading r.0 r.1) _ _ c.from_residual.ensures.1
    ∙ read_refused (λ v. v) _ _ _ (sym c.in_err-within_limits.ensures)

pub overflow_mul-all : goal.overflow_mul-all
overflow_mul-all c = omega (arith, kept _ _ (sym c.in_ok-within_limits.ensures))

pub returns-then-all-width : goal.returns-then-all-width
returns-then-all-width c =
    ap (λ r. Refused (number_of r) (carried_by r)) c.cut.ensures
    ∙ read_short (λ v. v) _ _ _ (sym c.in_ok-within_limits.ensures) (omega arith)

pub returns-then-all-width-2 : goal.returns-then-all-width-2
returns-then-all-width-2 c =
    ap (λ r. Refused (number_of r) (carried_by r)) c.cut-then-all-width-2.ensures
    ∙ read_short (λ v. v) _ _ _ (sym c.in_ok-within_limits.ensures) (omega arith)

pub field_at-requires : goal.field_at-requires
field_at-requires c = omega (arith, kept _ _ (sym c.in_ok-within_limits.ensures))

pub overflow_add-result : goal.overflow_add-result
overflow_add-result c = omega (arith, kept _ _ (sym c.in_ok-within_limits.ensures))

pub returns : goal.returns
returns c =
    let a = c.args in
    ap (λ (x : ℕ). Accepted (reading x (a.start + a.width))) c.field_at.ensures
    ∙ read_value (λ v. v) _ _ _ (sym c.in_ok-within_limits.ensures) (omega arith)
