-- The last byte's part of a field stands behind what the call of itself reads, whose field is shorter: the measure is the width. Assumes nothing.
use mathlib.Core.Path.{◌≡◌, refl, sym, ap, ◌∙◌}
use Prim.Native.Nat.{◌+◌, ◌-◌}
use native.Mathlib.Omega.{arith}
use Rattle.bits.specs.Field.{field}
use Rattle.bits.proofs.FieldLaws.{field_below, chunk_step}
use Rattle.bits.proofs.raw.+field_by_bytes.Goals as goal

pub returns-then-width-eq0 : goal.returns-then-width-eq0
unfolding field
returns-then-width-eq0 t c = ap (field c.args.bytes.now c.args.start) (sym c.if-width-eq0.true)

pub overflow_add-result : goal.overflow_add-result
overflow_add-result t c =
    let a = c.args in
    let m = c.min-m.result in
    let e = chunk_step a.bytes.now a.start (a.width - m) m c.field_by_bytes.result _ c.field_by_bytes.ensures refl (omega arith) (omega arith) in
    record { fits = rw e (field_below _ _ _ 64 (omega arith)) }

pub returns : goal.returns
returns t c =
    let a = c.args in
    let m = c.min-m.result in
    let e : a.width - m + m ≡ a.width = omega arith in
    chunk_step a.bytes.now a.start (a.width - m) m c.field_by_bytes.result _ c.field_by_bytes.ensures refl (omega arith) (omega arith)
    ∙ ap (field a.bytes.now a.start) e
