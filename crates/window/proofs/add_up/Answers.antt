-- The tails from place k on are stored. Assumes nothing.
use mathlib.Core.Path.{◌∙◌}
use native.Mathlib.Omega.{arith}
use lib.ListN.{length, length-set}
use Rattle.window.proofs.SumLaws.{adding_first, adding_more, adding_end}
use Rattle.window.proofs.add_up.Goals as goal

pub loop-k-init : goal.loop-k-init
loop-k-init c = let a = c.args in adding_first a.part.now a.out.now c.requires.0 c.requires.1

pub loop-k-preserved : goal.loop-k-preserved
loop-k-preserved c =
    let a = c.args in
    let l = c.loop-k in
    adding_more a.part.now a.out.now c.requires.0 c.requires.1 (λ k. (c.type_inv.part k).fits) l.out l.k l.sum _
    (omega arith) l.invariant c.low.ensures

pub shape_of-out : goal.shape_of-out
shape_of-out c = c.loop-k.invariant.as_long ∙ length-set c.args.out.now (length c.args.part.now) 0

pub returns : goal.returns
returns c = let a = c.args in adding_end a.part.now a.out.now c.requires.0 c.requires.1 c.loop-k.out c.loop-k.k c.loop-k.sum (omega arith) c.loop-k.invariant
