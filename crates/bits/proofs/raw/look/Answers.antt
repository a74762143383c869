-- A field is cut out of eight bytes in which all of it lies. Assumes nothing.
use mathlib.Core.Path.{◌≡◌, sym, ap, ◌∙◌}
use Prim.Native.Nat.{ℕ, ◌+◌, ◌-◌, ◌*◌, ◌/◌, ◌%◌, ◌^◌}
use native.Mathlib.Omega.{arith}
use Rattle.bits.specs.Field.{field}
use Rattle.bits.proofs.FieldLaws.{field_within}
use Rattle.bits.proofs.raw.look.Goals as goal

pub returns : goal.returns
returns c =
    let a = c.args in
    let i = c.min-i.result in
    let e : i * 8 + (a.start - i * 8) ≡ a.start = omega arith in
    ap (λ (x : ℕ). x * 2 ^ (a.start - i * 8) % 2 ^ 64 / 2 ^ (64 - a.width)) c.eight_at.ensures
    ∙ sym (field_within a.bytes.now (i * 8) 64 (a.start - i * 8) a.width (omega arith))
    ∙ ap (λ (x : ℕ). field a.bytes.now x a.width) e
