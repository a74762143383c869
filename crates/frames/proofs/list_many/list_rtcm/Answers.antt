-- The loop has come to place i with k frames listed, and a window that begins at or before place i is at hand. Assumes nothing.
use mathlib.Core.Path.{refl, sym, ◌∙◌}
use native.Mathlib.Omega.{arith}
use lib.ListN.{length-append}
use borrow.Author.Tests.{eqb-true}
use Rattle.frames.proofs.ListLaws.{tells, at_start, ends_full, ends_all, ends_short, skips_on, passes, good_few, good_inside, good_some, lists}
use Rattle.frames.proofs.list_many.list_rtcm.Goals as goal

pub overflow_add-all : goal.overflow_add-all
overflow_add-all c = record { fits = omega (arith, c.requires.0.held, c.requires.0.piece) }

pub open-near-requires : goal.open-near-requires
open-near-requires c = let p = c.requires in (p.1.inside, omega (arith, p.0.held, p.0.piece), omega arith, refl)

pub loop-k-init : goal.loop-k-init
loop-k-init c =
    let a = c.args in
    let p = c.requires.1 in
    let w = c.open-near.ensures in
    (record { leads = refl; inside = omega (arith, p.inside, length-append a.held.now a.piece.now); counted = p.counted; each = p.each; most = p.most; starts = refl; lengths = refl }, omega (arith, w.0), w.2, w.3)

pub next_start-at-requires : goal.next_start-at-requires
next_start-at-requires c =
    let a = c.args in
    let p = c.requires.0 in
    (omega (arith, c.loop-k.invariant.0.inside, length-append a.held.now a.piece.now), omega (arith, p.held, p.piece))

pub shape_of-starts-then-all-at : goal.shape_of-starts-then-all-at
shape_of-starts-then-all-at c = c.loop-k.invariant.0.starts

pub shape_of-lengths-then-all-at : goal.shape_of-lengths-then-all-at
shape_of-lengths-then-all-at c = c.loop-k.invariant.0.lengths

pub returns-then-all-at : goal.returns-then-all-at
returns-then-all-at c =
    let a = c.args in
    tells c.ended.ensures (ends_all _ _ _ _ _ _ _ _ _ _ _ _ _ _ (at_start _ _ _ _ _ _ _ _ _ _ _ _ _ _ c.loop-k.invariant.0 c.loop-k-test.true _ c.next_start-at.ensures) c.loop-k-test.true (omega (arith, length-append a.held.now a.piece.now)))

pub cover-window-requires : goal.cover-window-requires
cover-window-requires c =
    let p = c.requires.0 in
    let l = c.loop-k.invariant in
    (omega arith, omega (arith, p.held, p.piece), l.3, omega (arith, l.1, c.next_start-at.ensures.from), l.2)

pub rtcm_in-requires : goal.rtcm_in-requires
rtcm_in-requires c =
    let a = c.args in
    let p = c.requires.0 in
    let w = c.cover-window.ensures in
    (omega arith, omega (arith, p.held, p.piece), eqb-true _ _ (c.next_start-at.ensures.there (omega (arith, length-append a.held.now a.piece.now))), w.0, w.1, w.2)

pub shape_of-starts-in-Incomplete : goal.shape_of-starts-in-Incomplete
shape_of-starts-in-Incomplete c = c.loop-k.invariant.0.starts

pub shape_of-lengths-in-Incomplete : goal.shape_of-lengths-in-Incomplete
shape_of-lengths-in-Incomplete c = c.loop-k.invariant.0.lengths

pub returns-in-Incomplete : goal.returns-in-Incomplete
returns-in-Incomplete c = tells c.ended-in-Incomplete.ensures (ends_short _ _ _ _ _ _ _ _ _ _ _ _ _ _ (at_start _ _ _ _ _ _ _ _ _ _ _ _ _ _ c.loop-k.invariant.0 c.loop-k-test.true _ c.next_start-at.ensures) c.loop-k-test.true (sym c.in-Incomplete.is ∙ c.rtcm_in.ensures))

pub overflow_add-at : goal.overflow_add-at
overflow_add-at c = let p = c.requires.0 in record { fits = omega (arith, p.held, p.piece) }

pub pass-on-requires : goal.pass-on-requires
pass-on-requires c =
    let p = c.requires.0 in
    let w = c.cover-window.ensures in
    (omega arith, omega arith, omega (arith, p.held, p.piece), omega (arith, w.0), w.2)

pub loop-k-smaller-in-NotValid : goal.loop-k-smaller-in-NotValid
loop-k-smaller-in-NotValid c = omega (arith, c.pass-on.ensures.on, c.next_start-at.ensures.from)

pub loop-k-preserved-in-NotValid : goal.loop-k-preserved-in-NotValid
loop-k-preserved-in-NotValid c =
    let a = c.args in
    let w = c.cover-window.ensures in
    let p = c.pass-on.ensures in
    (skips_on _ _ _ _ _ _ _ _ _ _ _ _ _ _ (passes _ _ _ _ _ _ _ _ _ _ _ _ _ _ (at_start _ _ _ _ _ _ _ _ _ _ _ _ _ _ c.loop-k.invariant.0 c.loop-k-test.true _ c.next_start-at.ensures) c.loop-k-test.true _ (sym c.in-NotValid.is ∙ c.rtcm_in.ensures)) c.loop-k-test.true _ p.on (omega (arith, p.within, length-append a.held.now a.piece.now)) p.skips, omega (arith, w.0, p.on), w.2, w.3)

pub overflow_cast-starts : goal.overflow_cast-starts
overflow_cast-starts c = let p = c.requires.0 in omega (arith, p.held, p.piece)

pub offset_bounds-starts-k : goal.offset_bounds-starts-k
offset_bounds-starts-k c =
    let a = c.args in
    let p = c.requires.0 in
    let l = c.loop-k.invariant.0 in
    record { fits = omega (arith, p.held, p.piece, l.each, l.counted, l.inside, length-append a.held.now a.piece.now) }

pub bounds-starts-k : goal.bounds-starts-k
bounds-starts-k c = omega (arith, c.loop-k.invariant.0.starts, c.requires.0.starts)

pub overflow_cast-lengths : goal.overflow_cast-lengths
overflow_cast-lengths c = omega (arith, good_few _ _ _ _ _ _ _ _ _ _ _ _ _ _ (at_start _ _ _ _ _ _ _ _ _ _ _ _ _ _ c.loop-k.invariant.0 c.loop-k-test.true _ c.next_start-at.ensures) c.loop-k-test.true _ (sym c.in-Good.is ∙ c.rtcm_in.ensures))

pub offset_bounds-lengths-k : goal.offset_bounds-lengths-k
offset_bounds-lengths-k c =
    let a = c.args in
    let p = c.requires.0 in
    let l = c.loop-k.invariant.0 in
    record { fits = omega (arith, p.held, p.piece, l.each, l.counted, l.inside, length-append a.held.now a.piece.now) }

pub bounds-lengths-k : goal.bounds-lengths-k
bounds-lengths-k c = omega (arith, c.loop-k.invariant.0.lengths, c.requires.0.lengths)

pub overflow_add-framed : goal.overflow_add-framed
overflow_add-framed c =
    let a = c.args in
    let p = c.requires.0 in
    record { fits = omega (arith, p.held, p.piece, c.loop-k.invariant.0.counted, c.next_start-at.ensures.from, length-append a.held.now a.piece.now, good_inside _ _ _ _ _ _ _ _ _ _ _ _ _ _ (at_start _ _ _ _ _ _ _ _ _ _ _ _ _ _ c.loop-k.invariant.0 c.loop-k-test.true _ c.next_start-at.ensures) c.loop-k-test.true _ (sym c.in-Good.is ∙ c.rtcm_in.ensures)) }

pub overflow_add-k : goal.overflow_add-k
overflow_add-k c =
    let a = c.args in
    let p = c.requires.0 in
    let l = c.loop-k.invariant.0 in
    record { fits = omega (arith, p.held, p.piece, l.each, l.counted, l.inside, length-append a.held.now a.piece.now) }

pub overflow_add-i : goal.overflow_add-i
overflow_add-i c =
    let a = c.args in
    let p = c.requires.0 in
    record { fits = omega (arith, p.held, p.piece, length-append a.held.now a.piece.now, good_inside _ _ _ _ _ _ _ _ _ _ _ _ _ _ (at_start _ _ _ _ _ _ _ _ _ _ _ _ _ _ c.loop-k.invariant.0 c.loop-k-test.true _ c.next_start-at.ensures) c.loop-k-test.true _ (sym c.in-Good.is ∙ c.rtcm_in.ensures)) }

pub loop-k-smaller : goal.loop-k-smaller
loop-k-smaller c = omega (arith, c.next_start-at.ensures.from, good_some _ _ _ _ _ _ _ _ _ _ _ _ _ _ (at_start _ _ _ _ _ _ _ _ _ _ _ _ _ _ c.loop-k.invariant.0 c.loop-k-test.true _ c.next_start-at.ensures) c.loop-k-test.true _ (sym c.in-Good.is ∙ c.rtcm_in.ensures))

pub loop-k-preserved : goal.loop-k-preserved
loop-k-preserved c =
    let w = c.cover-window.ensures in
    (lists _ _ _ _ _ _ _ _ _ _ _ _ _ _ (at_start _ _ _ _ _ _ _ _ _ _ _ _ _ _ c.loop-k.invariant.0 c.loop-k-test.true _ c.next_start-at.ensures) c.loop-k-test.true _ (sym c.in-Good.is ∙ c.rtcm_in.ensures), omega (arith, w.0), w.2, w.3)

pub shape_of-starts : goal.shape_of-starts
shape_of-starts c = c.loop-k.invariant.0.starts

pub shape_of-lengths : goal.shape_of-lengths
shape_of-lengths c = c.loop-k.invariant.0.lengths

pub returns : goal.returns
returns c = tells c.ended-2.ensures (ends_full _ _ _ _ _ _ _ _ _ _ _ _ _ _ c.loop-k.invariant.0 (omega arith))
