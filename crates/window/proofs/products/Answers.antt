-- The products of the first k bytes are stored. Assumes nothing.
use mathlib.Core.Path.{sym, ap₂, ◌∙◌, subst}
use Prim.Native.Nat.{ℕ, ◌^◌, ◌<◌}
use native.Mathlib.Omega.{arith}
use Rattle.window.specs.Steps.{times}
use Rattle.window.proofs.SumLaws.{weight_small, weight_of, taking_first, taking_more, taking_end}
use Rattle.window.proofs.products.Goals as goal

pub loop-k-init : goal.loop-k-init
loop-k-init c = let a = c.args in taking_first a.part.now a.out.now c.requires.1

pub times-requires : goal.times-requires
times-requires c = subst (λ (n : ℕ). n < 2 ^ 24) (sym (weight_of _ c.requires.2 _ _ c.requires.0 c.loop-k-test.true)) (weight_small _)

pub loop-k-preserved : goal.loop-k-preserved
loop-k-preserved c =
    let a = c.args in
    let l = c.loop-k in
    let h = c.loop-k-test.true in
    taking_more a.part.now a.out.now c.requires.1 l.out l.k _ h l.invariant
    (c.times.ensures ∙ ap₂ times c.from.ensures (weight_of _ c.requires.2 _ _ c.requires.0 h))

pub shape_of-out : goal.shape_of-out
shape_of-out c = c.loop-k.invariant.as_long

pub returns : goal.returns
returns c = let a = c.args in taking_end a.part.now a.out.now c.requires.1 c.loop-k.out c.loop-k.k (omega arith) c.loop-k.invariant
