-- The first two words are folded into the last. Assumes nothing.
use mathlib.Core.Path.{ap, ap₂, ◌∙◌, subst}
use Prim.Native.Nat.{ℕ, ◌^◌, ◌<◌}
use lib.Bits.{bit_xor, xor_lt}
use borrow.Author.Rules.{rules}
use Rattle.bits.specs.FoldSteps.{rem, nearer, next}
use Rattle.bits.proofs.StepLaws.{ended}
use Rattle.bits.proofs.fold.close.Goals as goal

pub returns : goal.returns
returns c =
    let g = c.before.before.before.before in
    let a = g.args.a in
    let b = g.args.b in
    let n = c.nearer in
    let e = n.ensures in
    let h : bit_xor b (nearer a) < 2 ^ 64 = subst (λ (z : ℕ). bit_xor b z < 2 ^ 64) e (xor_lt 64 b n.result g.ranges.b.fits (search rules)) in
    c.last.ensures
    ∙ ap₂ (λ (x y : ℕ). rem 64 (bit_xor (bit_xor g.args.c x) y)) c.farther.ensures (c.next.ensures ∙ ap (λ (z : ℕ). next (bit_xor b z)) e)
    ∙ ended a b g.args.c g.ranges.a.fits h
