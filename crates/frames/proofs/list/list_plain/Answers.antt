-- The loop has come to place i with k frames listed, and each candidate that failed had at most 1,029 bytes. Assumes nothing.
use mathlib.Core.Path.{refl, sym, ◌∙◌}
use mathlib.Core.List.{◌++◌}
use native.Mathlib.Omega.{arith}
use lib.ListN.{length, set, length-append}
use borrow.Author.Rules.{rules}
use Rattle.frames.specs.Modes.{framing_of}
use Rattle.frames.specs.Steps.{number_of}
use Rattle.frames.proofs.ListLaws.{tells, came_first, goes_on, by_numbers, reached_so, stops_at, at_start, ends_full, ends_all, ends_short, failed_few, passes, good_few, good_inside, good_some, lists}
use Rattle.frames.proofs.list.list_plain.Goals as goal

pub overflow_add-all : goal.overflow_add-all
overflow_add-all c = record { fits = omega (arith, c.requires.held, c.requires.piece) }

pub loop-k-init : goal.loop-k-init
loop-k-init c =
    let a = c.args in
    (record { leads = came_first (framing_of (number_of a.mode)) (a.held.now ++ a.piece.now) a.room a.starts.now a.lengths.now; inside = omega arith; counted = omega arith; each = omega arith; most = omega arith; starts = refl; lengths = refl }, omega arith)

pub next_start-j-requires : goal.next_start-j-requires
next_start-j-requires c =
    let a = c.args in
    let p = c.requires in
    (omega (arith, c.loop-k.invariant.0.inside, length-append a.held.now a.piece.now), omega (arith, p.held, p.piece))

pub shape_of-starts-then-all-j : goal.shape_of-starts-then-all-j
shape_of-starts-then-all-j c = c.loop-k.invariant.0.starts

pub shape_of-lengths-then-all-j : goal.shape_of-lengths-then-all-j
shape_of-lengths-then-all-j c = c.loop-k.invariant.0.lengths

pub returns-then-all-j : goal.returns-then-all-j
returns-then-all-j c =
    let a = c.args in
    tells c.ended.ensures (ends_all _ _ _ _ _ _ _ _ _ _ _ _ _ _ (at_start _ _ _ _ _ _ _ _ _ _ _ _ _ _ c.loop-k.invariant.0 c.loop-k-test.true _ c.next_start-j.ensures) c.loop-k-test.true (omega (arith, length-append a.held.now a.piece.now)))

pub candidate_at-requires : goal.candidate_at-requires
candidate_at-requires c =
    let a = c.args in
    let p = c.requires in
    (omega arith, omega (arith, p.held, p.piece), c.next_start-j.ensures.there (omega (arith, length-append a.held.now a.piece.now)))

pub shape_of-starts-in-Incomplete : goal.shape_of-starts-in-Incomplete
shape_of-starts-in-Incomplete c = c.loop-k.invariant.0.starts

pub shape_of-lengths-in-Incomplete : goal.shape_of-lengths-in-Incomplete
shape_of-lengths-in-Incomplete c = c.loop-k.invariant.0.lengths

pub returns-in-Incomplete : goal.returns-in-Incomplete
returns-in-Incomplete c = tells c.ended-in-Incomplete.ensures (ends_short _ _ _ _ _ _ _ _ _ _ _ _ _ _ (at_start _ _ _ _ _ _ _ _ _ _ _ _ _ _ c.loop-k.invariant.0 c.loop-k-test.true _ c.next_start-j.ensures) c.loop-k-test.true (sym c.in-Incomplete.is ∙ c.candidate_at.ensures))

pub overflow_add-failed : goal.overflow_add-failed
overflow_add-failed c =
    let a = c.args in
    let p = c.requires in
    record { fits = omega (arith, p.held, p.piece, c.loop-k.invariant.1, c.loop-k.invariant.0.inside, length-append a.held.now a.piece.now, failed_few _ _ _ _ _ _ _ _ _ _ _ _ _ _ (at_start _ _ _ _ _ _ _ _ _ _ _ _ _ _ c.loop-k.invariant.0 c.loop-k-test.true _ c.next_start-j.ensures) c.loop-k-test.true _ (sym c.in-NotValid.is ∙ c.candidate_at.ensures)) }

pub overflow_add-i : goal.overflow_add-i
overflow_add-i c = let p = c.requires in record { fits = omega (arith, p.held, p.piece) }

pub overflow_mul-i : goal.overflow_mul-i
overflow_mul-i c = let p = c.requires in record { fits = omega (arith, p.held, p.piece) }

pub overflow_add-i-in-NotValid : goal.overflow_add-i-in-NotValid
overflow_add-i-in-NotValid c = let p = c.requires in record { fits = omega (arith, p.held, p.piece) }

pub list_on-requires : goal.list_on-requires
list_on-requires c =
    let a = c.args in
    let p = c.requires in
    let l = c.loop-k.invariant.0 in
    let w = passes _ _ _ _ _ _ _ _ _ _ _ _ _ _ (at_start _ _ _ _ _ _ _ _ _ _ _ _ _ _ l c.loop-k-test.true _ c.next_start-j.ensures) c.loop-k-test.true _ (sym c.in-NotValid.is ∙ c.candidate_at.ensures) in (
      record { held = p.held; piece = p.piece; starts = omega (arith, p.starts, l.starts); lengths = omega (arith, p.lengths, l.lengths) },
      reached_so _ _ c.ended-at.ensures (omega (arith, w.inside, length-append a.held.now a.piece.now)) w.counted w.each w.most,
    )

pub shape_of-starts-then-i-failed : goal.shape_of-starts-then-i-failed
shape_of-starts-then-i-failed c = ◌∙◌ {b = length c.loop-k.starts} (search rules) c.loop-k.invariant.0.starts

pub shape_of-lengths-then-i-failed : goal.shape_of-lengths-then-i-failed
shape_of-lengths-then-i-failed c = ◌∙◌ {b = length c.loop-k.lengths} (search rules) c.loop-k.invariant.0.lengths

pub returns-then-i-failed : goal.returns-then-i-failed
returns-then-i-failed c =
    let w = passes _ _ _ _ _ _ _ _ _ _ _ _ _ _ (at_start _ _ _ _ _ _ _ _ _ _ _ _ _ _ c.loop-k.invariant.0 c.loop-k-test.true _ c.next_start-j.ensures) c.loop-k-test.true _ (sym c.in-NotValid.is ∙ c.candidate_at.ensures) in
    goes_on (framing_of (number_of c.args.mode)) _ _ c.loop-k.starts c.loop-k.lengths c.ended-at.ensures c.list_on.ensures ∙ w.leads

pub loop-k-smaller-else-i-failed : goal.loop-k-smaller-else-i-failed
loop-k-smaller-else-i-failed c = omega (arith, c.next_start-j.ensures.from)

pub loop-k-preserved-else-i-failed : goal.loop-k-preserved-else-i-failed
loop-k-preserved-else-i-failed c =
    let q = sym c.in-NotValid.is ∙ c.candidate_at.ensures in
    let l = c.loop-k in
    (passes _ _ _ _ _ _ _ _ _ _ _ _ _ _ (at_start _ _ _ _ _ _ _ _ _ _ _ _ _ _ l.invariant.0 c.loop-k-test.true _ c.next_start-j.ensures) c.loop-k-test.true _ q, omega (arith, l.invariant.1, c.next_start-j.ensures.from, failed_few _ _ _ _ _ _ _ _ _ _ _ _ _ _ (at_start _ _ _ _ _ _ _ _ _ _ _ _ _ _ l.invariant.0 c.loop-k-test.true _ c.next_start-j.ensures) c.loop-k-test.true _ q))

pub overflow_cast-starts : goal.overflow_cast-starts
overflow_cast-starts c = let p = c.requires in omega (arith, p.held, p.piece)

pub offset_bounds-starts-k : goal.offset_bounds-starts-k
offset_bounds-starts-k c =
    let a = c.args in
    let p = c.requires in
    let l = c.loop-k.invariant.0 in
    record { fits = omega (arith, p.held, p.piece, l.each, l.counted, l.inside, length-append a.held.now a.piece.now) }

pub bounds-starts-k : goal.bounds-starts-k
bounds-starts-k c = omega (arith, c.loop-k.invariant.0.starts, c.requires.starts)

pub overflow_cast-lengths : goal.overflow_cast-lengths
overflow_cast-lengths c = omega (arith, good_few _ _ _ _ _ _ _ _ _ _ _ _ _ _ (at_start _ _ _ _ _ _ _ _ _ _ _ _ _ _ c.loop-k.invariant.0 c.loop-k-test.true _ c.next_start-j.ensures) c.loop-k-test.true _ (sym c.in-Good.is ∙ c.candidate_at.ensures))

pub offset_bounds-lengths-k : goal.offset_bounds-lengths-k
offset_bounds-lengths-k c =
    let a = c.args in
    let p = c.requires in
    let l = c.loop-k.invariant.0 in
    record { fits = omega (arith, p.held, p.piece, l.each, l.counted, l.inside, length-append a.held.now a.piece.now) }

pub bounds-lengths-k : goal.bounds-lengths-k
bounds-lengths-k c = omega (arith, c.loop-k.invariant.0.lengths, c.requires.lengths)

-- the frame that was found is listed
pub overflow_add-k : goal.overflow_add-k
overflow_add-k c =
    let a = c.args in
    let p = c.requires in
    let l = c.loop-k.invariant.0 in
    record { fits = omega (arith, p.held, p.piece, l.each, l.counted, l.inside, length-append a.held.now a.piece.now) }

pub overflow_add-j : goal.overflow_add-j
overflow_add-j c =
    let a = c.args in
    let p = c.requires in
    record { fits = omega (arith, p.held, p.piece, length-append a.held.now a.piece.now, good_inside _ _ _ _ _ _ _ _ _ _ _ _ _ _ (at_start _ _ _ _ _ _ _ _ _ _ _ _ _ _ c.loop-k.invariant.0 c.loop-k-test.true _ c.next_start-j.ensures) c.loop-k-test.true _ (sym c.in-Good.is ∙ c.candidate_at.ensures)) }

pub overflow_add-framed : goal.overflow_add-framed
overflow_add-framed c =
    let a = c.args in
    let p = c.requires in
    record { fits = omega (arith, p.held, p.piece, c.loop-k.invariant.0.counted, c.next_start-j.ensures.from, length-append a.held.now a.piece.now, good_inside _ _ _ _ _ _ _ _ _ _ _ _ _ _ (at_start _ _ _ _ _ _ _ _ _ _ _ _ _ _ c.loop-k.invariant.0 c.loop-k-test.true _ c.next_start-j.ensures) c.loop-k-test.true _ (sym c.in-Good.is ∙ c.candidate_at.ensures)) }

pub list_run-run-requires : goal.list_run-run-requires
list_run-run-requires c =
    let a = c.args in
    let p = c.requires in
    let w = lists _ _ _ _ _ _ _ _ _ _ _ _ _ _ (at_start _ _ _ _ _ _ _ _ _ _ _ _ _ _ c.loop-k.invariant.0 c.loop-k-test.true _ c.next_start-j.ensures) c.loop-k-test.true _ (sym c.in-Good.is ∙ c.candidate_at.ensures) in (
      record { held = p.held; piece = p.piece; starts = omega (arith, p.starts, w.starts); lengths = omega (arith, p.lengths, w.lengths) },
      reached_so _ _ c.ended-at-in-Good.ensures (omega (arith, w.inside, length-append a.held.now a.piece.now)) w.counted w.each w.most,
    )

pub loop-k-smaller : goal.loop-k-smaller
loop-k-smaller c = omega (arith, c.next_start-j.ensures.from, good_some _ _ _ _ _ _ _ _ _ _ _ _ _ _ (at_start _ _ _ _ _ _ _ _ _ _ _ _ _ _ c.loop-k.invariant.0 c.loop-k-test.true _ c.next_start-j.ensures) c.loop-k-test.true _ (sym c.in-Good.is ∙ c.candidate_at.ensures), c.list_run-run.ensures.2, stops_at c.ended-at-in-Good.ensures)

pub loop-k-preserved : goal.loop-k-preserved
loop-k-preserved c =
    let a = c.args in
    let w = lists _ _ _ _ _ _ _ _ _ _ _ _ _ _ (at_start _ _ _ _ _ _ _ _ _ _ _ _ _ _ c.loop-k.invariant.0 c.loop-k-test.true _ c.next_start-j.ensures) c.loop-k-test.true _ (sym c.in-Good.is ∙ c.candidate_at.ensures) in
    let r = c.list_run-run.ensures in (
      record {
        leads = r.1 ∙ by_numbers (framing_of (number_of c.args.mode)) _ _ (set c.loop-k.starts c.loop-k.k c.next_start-j.result) (set c.loop-k.lengths c.loop-k.k c.in-Good.n) c.ended-at-in-Good.ensures w.leads;
        inside = omega (arith, r.0.inside, length-append a.held.now a.piece.now);
        counted = r.0.counted;
        each = r.0.each;
        most = r.0.most;
        starts = ◌∙◌ {b = length (set c.loop-k.starts c.loop-k.k c.next_start-j.result)} (search rules) w.starts;
        lengths = ◌∙◌ {b = length (set c.loop-k.lengths c.loop-k.k c.in-Good.n)} (search rules) w.lengths;
      },
      omega (arith, c.loop-k.invariant.1, c.next_start-j.ensures.from, r.2, stops_at c.ended-at-in-Good.ensures),
    )

pub shape_of-starts : goal.shape_of-starts
shape_of-starts c = c.loop-k.invariant.0.starts

pub shape_of-lengths : goal.shape_of-lengths
shape_of-lengths c = c.loop-k.invariant.0.lengths

pub returns : goal.returns
returns c = tells c.ended-2.ensures (ends_full _ _ _ _ _ _ _ _ _ _ _ _ _ _ c.loop-k.invariant.0 (omega arith))
