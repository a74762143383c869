-- The loop has written the first k bits; each turn writes what one byte has of the field. Assumes nothing.
use lib.ListN.{length-set, set, get_or}
use mathlib.Core.Path.{◌≡◌, refl, ap, ap₂, ◌∙◌}
use Prim.Native.Nat.{ℕ, ◌+◌, ◌/◌, ◌%◌, ◌^◌, ◌<◌, ◌-◌}
use native.Mathlib.Nat.{mod-eq_of_lt, mod-lt, div-one}
use native.Mathlib.Omega.{arith}
use lib.Pow.{pow_pos}
use borrow.Author.Rules.{rules}
use Rattle.bits.specs.Field.{put_field}
use Rattle.bits.specs.Steps.{splice}
use Rattle.bits.proofs.SpliceLaws.{splice_lt, put_chunk}
use Rattle.bits.proofs.raw.put_by_bytes.Goals as goal

pub loop-k-init : goal.loop-k-init
unfolding put_field
loop-k-init c = (search rules, refl, refl)

pub spliced-y-requires : goal.spliced-y-requires
spliced-y-requires c =
    let l = c.loop-k in
    let a = c.args in
    omega arith

pub loop-k-preserved : goal.loop-k-preserved
loop-k-preserved c =
    let l = c.loop-k in
    let a = c.args in
    let m = c.min-m.result in
    let i = (a.start + l.k) / 8 in
    let j = 8 - (a.start + l.k) % 8 - m in
    let v = a.number / 2 ^ (a.width - l.k - m) % 2 ^ m in
    let x = c.wide.result in
    let small : splice x m j v < 256 = splice_lt 8 x m j v c.wide.ensures.1 (omega arith) (mod-lt (a.number / 2 ^ (a.width - l.k - m)) (pow_pos m)) in
    let y : c.spliced-y.result % 256 ≡ splice (get_or l.bytes i 0) m j v =
    ap (λ (n : ℕ). n % 256) c.spliced-y.ensures ∙ mod-eq_of_lt small ∙ ap (λ (n : ℕ). splice n m j v) c.wide.ensures.0 in (
      omega arith,
      ap (set l.bytes i) y ∙ put_chunk a.bytes.now l.bytes a.start l.k m a.number a.width l.invariant.1 (omega arith) (omega arith) (omega arith),
      length-set l.bytes i (c.spliced-y.result % 256) ∙ l.invariant.2,
    )

pub shape_of-bytes : goal.shape_of-bytes
shape_of-bytes c = c.loop-k.invariant.2

pub returns : goal.returns
returns c =
    let l = c.loop-k in
    let a = c.args in
    let e : l.k ≡ a.width = omega arith in
    let d : a.width - l.k ≡ 0 = omega arith in
    l.invariant.1 ∙ ap₂ (λ (k n : ℕ). put_field a.bytes.now a.start k (a.number / 2 ^ n)) e d ∙ ap (put_field a.bytes.now a.start a.width) (div-one a.number)
