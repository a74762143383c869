-- The first k frames are filled in. Assumes nothing.
use mathlib.Core.Path.{refl}
use native.Mathlib.Omega.{arith}
use borrow.Author.Rules.{rules}
use Rattle.batch.proofs.FillLaws.{filled_none, next_part, fill_turn, all_copied, all_told}
use Rattle.batch.proofs.walk.fill.Goals as goal

pub loop-k-init : goal.loop-k-init
loop-k-init c = (filled_none _ _ _ _ _ _ _ c.requires.parts, omega arith)

pub offset_bounds-lengths-k : goal.offset_bounds-lengths-k
offset_bounds-lengths-k c = omega (arith, c.requires.same)

pub bounds-lengths-k : goal.bounds-lengths-k
bounds-lengths-k c = omega (arith, c.requires.same)

pub copy_early-requires : goal.copy_early-requires
copy_early-requires c =
    let p = c.requires in
    let l = c.loop-k.invariant.0 in
    let q = next_part _ _ _ _ _ _ _ _ _ _ l c.loop-k-test.true p.same in
    (omega (arith, q.0), omega (arith, q.2, p.held, p.area, l.area))

pub kind_at-requires : goal.kind_at-requires
kind_at-requires c =
    let p = c.requires in
    let q = next_part _ _ _ _ _ _ _ _ _ _ c.loop-k.invariant.0 c.loop-k-test.true p.same in
    omega (arith, q.0, q.1)

pub bounds-kinds-k : goal.bounds-kinds-k
bounds-kinds-k c = omega (arith, c.requires.room, c.loop-k.invariant.0.room)

pub loop-k-smaller : goal.loop-k-smaller
loop-k-smaller c = omega arith

pub loop-k-preserved : goal.loop-k-preserved
loop-k-preserved c =
    (fill_turn _ _ _ _ _ _ _ _ _ _ c.loop-k.invariant.0 c.loop-k-test.true c.requires.same _ _ _ refl refl c.kind_at.ensures _ c.copy_early.ensures (search rules), omega arith)

pub shape_of-seam : goal.shape_of-seam
shape_of-seam c = c.loop-k.invariant.0.area

pub shape_of-kinds : goal.shape_of-kinds
shape_of-kinds c = c.loop-k.invariant.0.room

pub returns : goal.returns
returns c =
    let l = c.loop-k.invariant.0 in
    (all_copied _ _ _ _ _ _ _ _ _ _ l (omega arith), all_told _ _ _ _ _ _ _ _ _ _ l (omega arith) c.requires.room)
