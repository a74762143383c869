-- The eight bytes around the field are written with it in its place. Assumes nothing.
use mathlib.Core.Path.{◌≡◌, sym, ap, ◌∙◌}
use Prim.Native.Nat.{ℕ, ◌+◌, ◌-◌, ◌*◌, ◌%◌, ◌^◌}
use native.Mathlib.Omega.{arith}
use Rattle.bits.specs.Field.{field, put_field}
use Rattle.bits.specs.Steps.{splice}
use Rattle.bits.proofs.EightLaws.{put_around}
use borrow.Author.Rules.{rules}
use Rattle.bits.proofs.raw.put_look.Goals as goal

pub put_eight-requires : goal.put_eight-requires
put_eight-requires c = (omega arith, omega arith, record { byte = λ k. search rules })

pub returns : goal.returns
returns c =
    let a = c.args in
    let i = c.min-i.result in
    let s = a.bytes.now in
    let o = a.start - i * 8 in
    let j = 64 - a.width - o in
    let e : i * 8 + o ≡ a.start = omega arith in
    let n : o + (a.width + j) ≡ 64 = omega arith in
    c.put_eight.ensures
    ∙ ap (put_field s (i * 8) 64) (c.spliced-x.ensures ∙ ap (λ (x : ℕ). splice x a.width j (a.number % 2 ^ a.width)) c.eight_at.ensures)
    ∙ ap (λ (m : ℕ). put_field s (i * 8) m (splice (field s (i * 8) m) a.width j (a.number % 2 ^ a.width))) (sym n)
    ∙ put_around s (i * 8) o a.width j a.number (omega arith) (record { byte = λ k. search rules })
    ∙ ap (λ (p : ℕ). put_field s p a.width a.number) e
