-- The tails from place k on are stored. Assumes nothing.
use mathlib.Core.Path.{◌≡◌, ap, ◌∙◌, subst}
use Prim.Native.Nat.{ℕ}
use lib.ListN.{length, set, length-set}
use native.Mathlib.Omega.{arith}
use Rattle.window.specs.Steps.{times}
use Rattle.window.proofs.FillLaws.{Filling, filling_first, filling_more, filling_end}
use Rattle.window.proofs.fill.Goals as goal

pub loop-k-init : goal.loop-k-init
loop-k-init c = let a = c.args in filling_first a.part.now a.out.now c.requires

pub times-product-requires : goal.times-product-requires
times-product-requires c = c.loop-k.invariant.small

pub loop-k-preserved : goal.loop-k-preserved
loop-k-preserved c =
    let a = c.args in
    let l = c.loop-k in
    let d = set a.out.now (length a.part.now) 0 in
    filling_more a.part.now d (omega (arith, c.requires, length-set a.out.now (length a.part.now) 0))
    (λ k. (c.type_inv.part k).fits) l.out l.k l.weight l.sum _ _ _ (omega arith) l.invariant
    (c.times-product.ensures ∙ ap (λ (b : ℕ). times b l.weight) c.from.ensures) c.low.ensures c.low-weight.ensures

pub shape_of-out : goal.shape_of-out
shape_of-out c = let a = c.args in c.loop-k.invariant.as_long ∙ length-set a.out.now (length a.part.now) 0

pub returns : goal.returns
returns c =
    let a = c.args in
    let l = c.loop-k in
    let z : l.k ≡ 0 = omega arith in
    filling_end a.part.now a.out.now c.requires l.out l.weight l.sum
    (subst (λ (k : ℕ). Filling a.part.now (set a.out.now (length a.part.now) 0) l.out k l.weight l.sum) z l.invariant)
