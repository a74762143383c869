-- What is taken is there, and the moves make the answer. Assumes nothing.
use mathlib.Core.Path.{refl}
use native.Mathlib.Omega.{arith}
use lib.ListN.{length}
use Rattle.frames.specs.Answers.{known}
use Rattle.batch.proofs.StopLaws.{taken_fits, stop_taken, settles}
use Rattle.batch.proofs.feed.settle.Goals as goal

pub slice_bounds-slide-end : goal.slice_bounds-slide-end
slice_bounds-slide-end c =
    omega (arith, c.taken_of-taken.ensures, taken_fits c.args.found c.args.scanner.count (length c.args.piece.now) _ c.requires.3)

pub slide-left-requires : goal.slide-left-requires
slide-left-requires c =
    let e = c.taken_of-taken.ensures in
    let f = taken_fits c.args.found c.args.scanner.count (length c.args.piece.now) _ c.requires.3 in
    let g = stop_taken c.args.found c.args.scanner.count (length c.args.piece.now) _ c.requires.3 in
    (c.requires.0, omega (arith, e, f, g), omega (arith, e, f, c.requires.3.room), omega (arith, e, f))

pub overflow_sub-result : goal.overflow_sub-result
overflow_sub-result c = omega (arith, c.requires.3.counted)

pub overflow_add-result : goal.overflow_add-result
overflow_add-result c =
    record { fits = omega (arith, c.taken_of-taken.ensures, taken_fits c.args.found c.args.scanner.count (length c.args.piece.now) _ c.requires.3) }

pub returns : goal.returns
returns c =
    let a = c.args in
    let u = c.slide-left.ensures in
    let e = c.taken_of-taken.ensures in
    let f = taken_fits a.found a.scanner.count (length a.piece.now) _ c.requires.3 in
    settles a.found a.held.now (known a.scanner) a.piece.now c.requires.0 _ _ _ _ _ _ e (omega (arith, e, f)) u.0 refl refl refl u.1
