-- The loop has come to place i with k frames listed, and windows that begin at or before place i are at hand. Assumes nothing.
use mathlib.Core.Path.{refl, sym, ◌∙◌}
use native.Mathlib.Omega.{arith}
use lib.ListN.{length-append}
use Rattle.frames.proofs.RunLaws.{begins_ready}
use Rattle.frames.proofs.ListLaws.{tells, at_start, ends_full, ends_all, ends_short, skips_on, passes, good_few, good_inside, good_some, lists}
use Rattle.frames.proofs.list_many.list_by.Goals as goal

pub overflow_add-all : goal.overflow_add-all
overflow_add-all c = record { fits = omega (arith, c.requires.0.held, c.requires.0.piece) }

pub open-near-requires : goal.open-near-requires
open-near-requires c = let p = c.requires in (p.1.inside, omega (arith, p.0.held, p.0.piece), omega arith, refl)

pub loop-k-init : goal.loop-k-init
loop-k-init c =
    let a = c.args in
    let p = c.requires in
    let w = c.open-near.ensures in
    let b = c.begun-at.ensures in
    let l = length-append a.held.now a.piece.now in (
      record { leads = refl; inside = omega (arith, p.1.inside, l); counted = p.1.counted; each = p.1.each; most = p.1.most; starts = refl; lengths = refl },
      omega (arith, w.0, b.0),
      omega (arith, b.2),
      begins_ready b.0 b.1 b.2 b.3 w.2 w.3 (omega (arith, l, p.1.inside)) p.2 p.3,
      refl,
    )

pub next_start-j-requires : goal.next_start-j-requires
next_start-j-requires c =
    let a = c.args in
    let p = c.requires.0 in
    (omega (arith, c.loop-k.invariant.0.inside, length-append a.held.now a.piece.now), omega (arith, p.held, p.piece))

pub shape_of-runs-then-all-j : goal.shape_of-runs-then-all-j
shape_of-runs-then-all-j c = c.loop-k.invariant.4

pub shape_of-starts-then-all-j : goal.shape_of-starts-then-all-j
shape_of-starts-then-all-j c = c.loop-k.invariant.0.starts

pub shape_of-lengths-then-all-j : goal.shape_of-lengths-then-all-j
shape_of-lengths-then-all-j c = c.loop-k.invariant.0.lengths

pub returns-then-all-j : goal.returns-then-all-j
returns-then-all-j c =
    let a = c.args in
    tells c.ended.ensures (ends_all _ _ _ _ _ _ _ _ _ _ _ _ _ _ (at_start _ _ _ _ _ _ _ _ _ _ _ _ _ _ c.loop-k.invariant.0 c.loop-k-test.true _ c.next_start-j.ensures) c.loop-k-test.true (omega (arith, length-append a.held.now a.piece.now)))

pub judge-judged-requires : goal.judge-judged-requires
judge-judged-requires c =
    let a = c.args in
    let p = c.requires.0 in
    let l = c.loop-k.invariant in
    let j = c.next_start-j.ensures in
    (omega arith, omega (arith, p.held, p.piece), j.there (omega (arith, length-append a.held.now a.piece.now)), omega (arith, l.1, j.from), omega (arith, l.2, j.from), l.3)

pub shape_of-runs-in-Incomplete : goal.shape_of-runs-in-Incomplete
shape_of-runs-in-Incomplete c = c.judge-judged.ensures.4 ∙ c.loop-k.invariant.4

pub shape_of-starts-in-Incomplete : goal.shape_of-starts-in-Incomplete
shape_of-starts-in-Incomplete c = c.loop-k.invariant.0.starts

pub shape_of-lengths-in-Incomplete : goal.shape_of-lengths-in-Incomplete
shape_of-lengths-in-Incomplete c = c.loop-k.invariant.0.lengths

pub returns-in-Incomplete : goal.returns-in-Incomplete
returns-in-Incomplete c = tells c.ended-in-Incomplete.ensures (ends_short _ _ _ _ _ _ _ _ _ _ _ _ _ _ (at_start _ _ _ _ _ _ _ _ _ _ _ _ _ _ c.loop-k.invariant.0 c.loop-k-test.true _ c.next_start-j.ensures) c.loop-k-test.true (sym c.in-Incomplete.is ∙ c.judge-judged.ensures.0))

pub overflow_add-j : goal.overflow_add-j
overflow_add-j c = let p = c.requires.0 in record { fits = omega (arith, p.held, p.piece) }

pub pass_both-on-requires : goal.pass_both-on-requires
pass_both-on-requires c =
    let p = c.requires in
    let w = c.judge-judged.ensures in
    (omega arith, omega arith, omega (arith, p.0.held, p.0.piece), omega (arith, w.1), omega (arith, w.2), w.3)

pub loop-k-smaller-in-NotValid : goal.loop-k-smaller-in-NotValid
loop-k-smaller-in-NotValid c = omega (arith, c.pass_both-on.ensures.on, c.next_start-j.ensures.from)

pub loop-k-preserved-in-NotValid : goal.loop-k-preserved-in-NotValid
loop-k-preserved-in-NotValid c =
    let a = c.args in
    let p = c.pass_both-on.ensures in
    let w = c.judge-judged.ensures in
    (skips_on _ _ _ _ _ _ _ _ _ _ _ _ _ _ (passes _ _ _ _ _ _ _ _ _ _ _ _ _ _ (at_start _ _ _ _ _ _ _ _ _ _ _ _ _ _ c.loop-k.invariant.0 c.loop-k-test.true _ c.next_start-j.ensures) c.loop-k-test.true _ (sym c.in-NotValid.is ∙ w.0)) c.loop-k-test.true _ p.on (omega (arith, p.within, length-append a.held.now a.piece.now)) p.skips, omega (arith, w.1, p.on), omega (arith, w.2, p.on), w.3, w.4 ∙ c.loop-k.invariant.4)

pub overflow_cast-starts : goal.overflow_cast-starts
overflow_cast-starts c = let p = c.requires.0 in omega (arith, p.held, p.piece)

pub offset_bounds-starts-k : goal.offset_bounds-starts-k
offset_bounds-starts-k c =
    let a = c.args in
    let p = c.requires.0 in
    let l = c.loop-k.invariant.0 in
    record { fits = omega (arith, p.held, p.piece, l.each, l.counted, l.inside, length-append a.held.now a.piece.now) }

pub bounds-starts-k : goal.bounds-starts-k
bounds-starts-k c = omega (arith, c.loop-k.invariant.0.starts, c.requires.0.starts)

pub overflow_cast-lengths : goal.overflow_cast-lengths
overflow_cast-lengths c = omega (arith, good_few _ _ _ _ _ _ _ _ _ _ _ _ _ _ (at_start _ _ _ _ _ _ _ _ _ _ _ _ _ _ c.loop-k.invariant.0 c.loop-k-test.true _ c.next_start-j.ensures) c.loop-k-test.true _ (sym c.in-Good.is ∙ c.judge-judged.ensures.0))

pub offset_bounds-lengths-k : goal.offset_bounds-lengths-k
offset_bounds-lengths-k c =
    let a = c.args in
    let p = c.requires.0 in
    let l = c.loop-k.invariant.0 in
    record { fits = omega (arith, p.held, p.piece, l.each, l.counted, l.inside, length-append a.held.now a.piece.now) }

pub bounds-lengths-k : goal.bounds-lengths-k
bounds-lengths-k c = omega (arith, c.loop-k.invariant.0.lengths, c.requires.0.lengths)

pub overflow_add-framed : goal.overflow_add-framed
overflow_add-framed c =
    let a = c.args in
    let p = c.requires.0 in
    record { fits = omega (arith, p.held, p.piece, c.loop-k.invariant.0.counted, c.next_start-j.ensures.from, length-append a.held.now a.piece.now, good_inside _ _ _ _ _ _ _ _ _ _ _ _ _ _ (at_start _ _ _ _ _ _ _ _ _ _ _ _ _ _ c.loop-k.invariant.0 c.loop-k-test.true _ c.next_start-j.ensures) c.loop-k-test.true _ (sym c.in-Good.is ∙ c.judge-judged.ensures.0)) }

pub overflow_add-k : goal.overflow_add-k
overflow_add-k c =
    let a = c.args in
    let p = c.requires.0 in
    let l = c.loop-k.invariant.0 in
    record { fits = omega (arith, p.held, p.piece, l.each, l.counted, l.inside, length-append a.held.now a.piece.now) }

pub overflow_add-i : goal.overflow_add-i
overflow_add-i c =
    let a = c.args in
    let p = c.requires.0 in
    record { fits = omega (arith, p.held, p.piece, length-append a.held.now a.piece.now, good_inside _ _ _ _ _ _ _ _ _ _ _ _ _ _ (at_start _ _ _ _ _ _ _ _ _ _ _ _ _ _ c.loop-k.invariant.0 c.loop-k-test.true _ c.next_start-j.ensures) c.loop-k-test.true _ (sym c.in-Good.is ∙ c.judge-judged.ensures.0)) }

pub loop-k-smaller : goal.loop-k-smaller
loop-k-smaller c = omega (arith, c.next_start-j.ensures.from, good_some _ _ _ _ _ _ _ _ _ _ _ _ _ _ (at_start _ _ _ _ _ _ _ _ _ _ _ _ _ _ c.loop-k.invariant.0 c.loop-k-test.true _ c.next_start-j.ensures) c.loop-k-test.true _ (sym c.in-Good.is ∙ c.judge-judged.ensures.0))

pub loop-k-preserved : goal.loop-k-preserved
loop-k-preserved c =
    let w = c.judge-judged.ensures in
    (lists _ _ _ _ _ _ _ _ _ _ _ _ _ _ (at_start _ _ _ _ _ _ _ _ _ _ _ _ _ _ c.loop-k.invariant.0 c.loop-k-test.true _ c.next_start-j.ensures) c.loop-k-test.true _ (sym c.in-Good.is ∙ w.0), omega (arith, w.1), omega (arith, w.2), w.3, w.4 ∙ c.loop-k.invariant.4)

pub shape_of-runs : goal.shape_of-runs
shape_of-runs c = c.loop-k.invariant.4

pub shape_of-starts : goal.shape_of-starts
shape_of-starts c = c.loop-k.invariant.0.starts

pub shape_of-lengths : goal.shape_of-lengths
shape_of-lengths c = c.loop-k.invariant.0.lengths

pub returns : goal.returns
returns c = tells c.ended-2.ensures (ends_full _ _ _ _ _ _ _ _ _ _ _ _ _ _ c.loop-k.invariant.0 (omega arith))
