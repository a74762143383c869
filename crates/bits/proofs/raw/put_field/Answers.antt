-- One look writes a field of up to 57 bits; a wider one is written in two parts. Assumes nothing.
use mathlib.Core.Path.{◌≡◌, sym, ap, ◌∙◌}
use mathlib.Core.List.{List}
use Prim.Native.Nat.{ℕ, ◌+◌, ◌-◌}
use native.Mathlib.Omega.{arith}
use Rattle.bits.specs.Field.{put_field}
use Rattle.bits.proofs.SpliceLaws.{put_split}
use Rattle.bits.proofs.raw.put_field.Goals as goal

pub returns : goal.returns
returns c =
    let a = c.args in
    let e : a.width - 32 + 32 ≡ a.width = omega arith in
    c.put_look-3.ensures
    ∙ ap (λ (t : List ℕ). put_field t (a.start + (a.width - 32)) 32 a.number) c.put_look-2.ensures
    ∙ sym (put_split a.bytes.now a.start (a.width - 32) 32 a.number)
    ∙ ap (λ (w : ℕ). put_field a.bytes.now a.start w a.number) e
