-- The three words, continued over what is left, are the whole. Assumes nothing.
use mathlib.Core.Path.{◌≡◌, sym, ap, ap₂, ◌∙◌}
use Prim.Native.Nat.{◌+◌, ◌*◌, ◌^◌, ◌≤◌, ◌<◌}
use native.Mathlib.Omega.{arith}
use lib.ListN.{length, drop}
use lib.Bits.{bit_xor, xor_lt}
use borrow.Author.Rules.{rules}
use Rattle.bits.specs.Crc.{crc_from}
use Rattle.bits.specs.Field.{field}
use Rattle.bits.proofs.CrcLaws.{from_end}
use Rattle.bits.specs.FoldSteps.{three, near, far}
use Rattle.bits.proofs.StepLaws.{alone, turned}
use Rattle.bits.proofs.fold.words.Goals as goal

pub loop-at-init : goal.loop-at-init
loop-at-init c =
    let a = c.args in
    let p = c.requires in
    (p.0, omega arith, omega arith, omega arith, c.ranges.w.fits, ap (λ z. crc_from z (drop a.i a.bytes.now)) (alone a.w))

pub eight_at-requires : goal.eight_at-requires
eight_at-requires c =
    let l = c.loop-at in
    omega (arith, l.invariant.0, l.invariant.1, c.loop-at-test.true)

pub overflow_add-at : goal.overflow_add-at
overflow_add-at c =
    let l = c.loop-at in
    omega (arith, l.invariant.0, l.invariant.1, c.loop-at-test.true, c.well_formed.0.0)

pub loop-at-smaller : goal.loop-at-smaller
loop-at-smaller c =
    let l = c.loop-at in
    omega (arith, l.invariant.0, l.invariant.1, c.loop-at-test.true)

pub loop-at-preserved : goal.loop-at-preserved
loop-at-preserved c =
    let l = c.loop-at in
    let a = c.args in
    let s = a.bytes.now in
    let h : l.at + 8 ≤ length s = omega (arith, l.invariant.0, l.invariant.1, c.loop-at-test.true) in
    let hn : c.near.result < 2 ^ 64 = search rules in
    let hf : c.far.result < 2 ^ 64 = search rules in
    let hw : c.eight_at.result < 2 ^ 64 = search rules in
    let e : bit_xor l.c c.near.result ≡ bit_xor l.c (near l.a) = ap (bit_xor l.c) c.near.ensures in
    let f : bit_xor c.eight_at.result c.far.result ≡ bit_xor (field s (l.at * 8) 64) (far l.a) =
    ap₂ bit_xor c.eight_at.ensures c.far.ensures in (
      h,
      omega (arith, l.invariant.1),
      l.invariant.3,
      xor_lt 64 l.c c.near.result l.invariant.4 hn,
      xor_lt 64 c.eight_at.result c.far.result hw hf,
      ap₂ (λ y z. crc_from (three l.b y z) (drop (l.at + 8) s)) e f
          ∙ sym (turned s l.at l.a l.b l.c h (λ k. (c.type_inv.bytes k).fits) l.invariant.2)
          ∙ l.invariant.5,
    )

pub returns : goal.returns
returns c =
    let l = c.loop-at in
    let s = c.args.bytes.now in
    c.close.ensures ∙ sym (from_end s l.at (three l.a l.b l.c) c.loop-at-test.false) ∙ l.invariant.5
