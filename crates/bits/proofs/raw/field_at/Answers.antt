-- A field that one look does not show is its first bits and then its last 32. Assumes nothing.
use mathlib.Core.Path.{◌≡◌, sym, ap, ap₂, ◌∙◌}
use mathlib.Core.List.{List}
use Prim.Native.Nat.{ℕ, ◌+◌, ◌-◌, ◌*◌, ◌%◌, ◌^◌, ◌≤◌}
use native.Mathlib.Omega.{arith}
use lib.Pow.{shl_exact}
use Rattle.bits.specs.Field.{field}
use Rattle.bits.proofs.FieldLaws.{field_split, field_lt, field_below}
use Rattle.bits.proofs.raw.field_at.Goals as goal

-- the two looks put together, as 64-bit code shifts the first
halves : (s : List ℕ) (p a x y : ℕ) → x ≡ field s p a → y ≡ field s (p + a) 32 → a ≤ 32 → x * 2 ^ 32 % 2 ^ 64 + y ≡ field s p (a + 32)
halves s p a x y ex ey h =
    ap₂ ◌+◌ (ap (λ (n : ℕ). n * 2 ^ 32 % 2 ^ 64) ex ∙ shl_exact a 32 64 (field_lt s p a) (omega arith)) ey ∙ sym (field_split s p a 32)

pub overflow_add-result : goal.overflow_add-result
overflow_add-result c =
    let a = c.args in
    let e = halves a.bytes.now a.start (a.width - 32) c.look-2.result c.look-3.result c.look-2.ensures c.look-3.ensures (omega arith) in
    record { fits = rw e (field_below _ _ _ 64 (omega arith)) }

pub returns : goal.returns
returns c =
    let a = c.args in
    let e : a.width - 32 + 32 ≡ a.width = omega arith in
    halves a.bytes.now a.start (a.width - 32) c.look-2.result c.look-3.result c.look-2.ensures c.look-3.ensures (omega arith)
    ∙ ap (field a.bytes.now a.start) e
