-- The loop has come to place i with k frames listed, no earlier than where it began. Assumes nothing.
use mathlib.Core.Path.{◌≡◌, refl, sym, ap, ◌∙◌}
use mathlib.Core.Bool.{false}
use native.Mathlib.Omega.{arith}
use lib.ListN.{length-append}
use Rattle.frames.specs.Modes.{framing_of}
use Rattle.frames.specs.ListSteps.{listed}
use Rattle.frames.specs.Steps.{number_of}
use Rattle.frames.proofs.ListLaws.{by_numbers, reached_so, stops_at, good_few, good_inside, lists}
use Rattle.frames.proofs.list.list_run.Goals as goal

pub loop-k-init : goal.loop-k-init
loop-k-init c =
    let a = c.args in
    let p = c.requires.1 in
    (record { leads = refl; inside = omega (arith, p.inside, length-append a.held.now a.piece.now); counted = p.counted; each = p.each; most = p.most; starts = refl; lengths = refl }, omega arith)

pub frame_here-requires : goal.frame_here-requires
frame_here-requires c =
    let a = c.args in
    let p = c.requires.0 in
    (omega (arith, c.loop-k.invariant.0.inside, length-append a.held.now a.piece.now), omega (arith, p.held, p.piece))

pub shape_of-starts-in_default : goal.shape_of-starts-in_default
shape_of-starts-in_default c = c.loop-k.invariant.0.starts

pub shape_of-lengths-in_default : goal.shape_of-lengths-in_default
shape_of-lengths-in_default c = c.loop-k.invariant.0.lengths

pub returns-in_default : goal.returns-in_default
returns-in_default c =
    let a = c.args in
    let l = c.loop-k.invariant.0 in (
      reached_so _ _ c.ended.ensures (omega (arith, l.inside, length-append a.held.now a.piece.now)) l.counted l.each l.most,
      by_numbers (framing_of (number_of c.args.mode)) _ _ c.loop-k.starts c.loop-k.lengths c.ended.ensures l.leads,
      omega (arith, c.loop-k.invariant.1, stops_at c.ended.ensures),
    )

pub overflow_cast-starts : goal.overflow_cast-starts
overflow_cast-starts c =
    let a = c.args in
    let p = c.requires.0 in
    omega (arith, p.held, p.piece, c.loop-k.invariant.0.inside, length-append a.held.now a.piece.now)

pub offset_bounds-starts-k : goal.offset_bounds-starts-k
offset_bounds-starts-k c =
    let a = c.args in
    let p = c.requires.0 in
    let l = c.loop-k.invariant.0 in
    record { fits = omega (arith, p.held, p.piece, l.each, l.counted, l.inside, length-append a.held.now a.piece.now) }

pub bounds-starts-k : goal.bounds-starts-k
bounds-starts-k c = omega (arith, c.loop-k.invariant.0.starts, c.requires.0.starts)

pub overflow_cast-lengths : goal.overflow_cast-lengths
overflow_cast-lengths c = omega (arith, good_few _ _ _ _ _ _ _ _ _ _ _ _ _ _ c.loop-k.invariant.0 c.loop-k-test.true _ (c.in-Some.ensures))

pub offset_bounds-lengths-k : goal.offset_bounds-lengths-k
offset_bounds-lengths-k c =
    let a = c.args in
    let p = c.requires.0 in
    let l = c.loop-k.invariant.0 in
    record { fits = omega (arith, p.held, p.piece, l.each, l.counted, l.inside, length-append a.held.now a.piece.now) }

pub bounds-lengths-k : goal.bounds-lengths-k
bounds-lengths-k c = omega (arith, c.loop-k.invariant.0.lengths, c.requires.0.lengths)

pub overflow_add-framed : goal.overflow_add-framed
overflow_add-framed c =
    let a = c.args in
    let p = c.requires.0 in
    record { fits = omega (arith, p.held, p.piece, c.loop-k.invariant.0.counted, length-append a.held.now a.piece.now, good_inside _ _ _ _ _ _ _ _ _ _ _ _ _ _ c.loop-k.invariant.0 c.loop-k-test.true _ (c.in-Some.ensures)) }

pub overflow_add-i : goal.overflow_add-i
overflow_add-i c =
    let a = c.args in
    let p = c.requires.0 in
    record { fits = omega (arith, p.held, p.piece, length-append a.held.now a.piece.now, good_inside _ _ _ _ _ _ _ _ _ _ _ _ _ _ c.loop-k.invariant.0 c.loop-k-test.true _ (c.in-Some.ensures)) }

pub loop-k-preserved : goal.loop-k-preserved
loop-k-preserved c = (lists _ _ _ _ _ _ _ _ _ _ _ _ _ _ c.loop-k.invariant.0 c.loop-k-test.true _ (c.in-Some.ensures), omega (arith, c.loop-k.invariant.1))

pub shape_of-starts : goal.shape_of-starts
shape_of-starts c = c.loop-k.invariant.0.starts

pub shape_of-lengths : goal.shape_of-lengths
shape_of-lengths c = c.loop-k.invariant.0.lengths

pub returns : goal.returns
returns c =
    let a = c.args in
    let e : c.loop-k.k ≡ a.places = omega (arith, c.loop-k.invariant.0.most) in
    let l = c.loop-k.invariant.0 in
    let ended = c.ended-2.ensures ∙ ap (λ k. listed k c.loop-k.i c.loop-k.framed false) (sym e) in (
      reached_so _ _ ended (omega (arith, l.inside, length-append a.held.now a.piece.now)) l.counted l.each l.most,
      by_numbers (framing_of (number_of c.args.mode)) _ _ c.loop-k.starts c.loop-k.lengths ended l.leads,
      omega (arith, c.loop-k.invariant.1, stops_at ended),
    )
