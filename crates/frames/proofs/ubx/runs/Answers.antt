-- The sums of the first k bytes and of each fewer are stored. Assumes nothing.
use mathlib.Core.Path.{refl, ◌∙◌}
use native.Mathlib.Omega.{arith}
use lib.ListN.{length-set}
use Rattle.frames.proofs.RunLaws.{running_first, running_more, running_end}
use Rattle.frames.proofs.ubx.runs.Goals as goal

pub loop-k-init : goal.loop-k-init
loop-k-init c = let a = c.args in running_first a.part.now a.out.now c.requires

pub overflow_add-first : goal.overflow_add-first
overflow_add-first c = record { fits = omega (arith, c.loop-k.invariant.first_small, (c.type_inv.part c.loop-k.k).fits) }

pub overflow_add-second : goal.overflow_add-second
overflow_add-second c = record { fits = omega (arith, c.loop-k.invariant.second_small) }

pub overflow_mul-out : goal.overflow_mul-out
overflow_mul-out c = record { fits = omega arith }

pub overflow_add-out : goal.overflow_add-out
overflow_add-out c = record { fits = omega arith }

pub offset_bounds-out-k : goal.offset_bounds-out-k
offset_bounds-out-k c = record { fits = omega (arith, c.loop-k.invariant.place) }

pub bounds-out-k : goal.bounds-out-k
bounds-out-k c = omega (arith, c.loop-k.invariant.as_long, length-set c.args.out.now 0 0, c.requires)

pub loop-k-preserved : goal.loop-k-preserved
loop-k-preserved c =
    let a = c.args in
    let l = c.loop-k in
    running_more a.part.now _ (omega (arith, length-set a.out.now 0 0, c.requires)) l.out l.k l.first l.second _ _ _ _ (omega arith) l.invariant refl refl refl refl

pub shape_of-out : goal.shape_of-out
shape_of-out c = c.loop-k.invariant.as_long ∙ length-set c.args.out.now 0 0

pub returns : goal.returns
returns c =
    let a = c.args in
    (running_end a.part.now _ (omega (arith, length-set a.out.now 0 0, c.requires)) _ c.loop-k.k _ _ (omega arith) c.loop-k.invariant, c.loop-k.invariant.as_long ∙ length-set a.out.now 0 0)
