-- What the search found says what to move: the moves make the outcome. Assumes nothing.
use mathlib.Core.Path.{refl, sym, ap, subst, ◌∙◌}
use native.Mathlib.Omega.{arith}
use lib.ListN.{length}
use Rattle.frames.specs.Answers.{known}
use Rattle.frames.specs.Steps.{moved, CanHold}
use Rattle.frames.proofs.MovedLaws.{moved_more, moved_frame_lem}
use Rattle.frames.proofs.scanner.carry_out.Goals as goal

pub slide-n-requires : goal.slide-n-requires
slide-n-requires c =
    let k = subst (CanHold _ _ _) c.in-More.is c.requires.5 in
    (c.requires.0, k.0, k.1, omega arith)

pub slice_bounds-front-end : goal.slice_bounds-front-end
slice_bounds-front-end c = (subst (CanHold (length c.args.held.now) c.args.scanner.count (length c.args.piece.now)) c.in-Frame.is c.requires.5).0

pub gather-requires : goal.gather-requires
gather-requires c = let k = (subst (CanHold (length c.args.held.now) c.args.scanner.count (length c.args.piece.now)) c.in-Frame.is c.requires.5) in (omega (arith, k), omega (arith, k), omega (arith, k))

pub overflow_add-skipped : goal.overflow_add-skipped
overflow_add-skipped c = let k = (subst (CanHold (length c.args.held.now) c.args.scanner.count (length c.args.piece.now)) c.in-Frame.is c.requires.5) in record { fits = omega (arith, k) }

pub slide-n-requires-in-Frame : goal.slide-n-requires-in-Frame
slide-n-requires-in-Frame c = let k = (subst (CanHold (length c.args.held.now) c.args.scanner.count (length c.args.piece.now)) c.in-Frame.is c.requires.5) in (omega (arith, k), omega (arith, k), omega (arith, k), omega (arith, k))

pub overflow_add-place : goal.overflow_add-place
overflow_add-place c = let k = (subst (CanHold (length c.args.held.now) c.args.scanner.count (length c.args.piece.now)) c.in-Frame.is c.requires.5) in record { fits = omega (arith, k) }

pub onwards-requires-in-Frame : goal.onwards-requires-in-Frame
onwards-requires-in-Frame c = let k = (subst (CanHold (length c.args.held.now) c.args.scanner.count (length c.args.piece.now)) c.in-Frame.is c.requires.5) in omega (arith, k)

pub returns-in-More : goal.returns-in-More
returns-in-More c =
    let a = c.args in
    let u = c.slide-n.ensures in
    moved_more a.held.now (known a.scanner) a.piece.now a.out.now c.in-More.i _ _ _ u.0 c.onwards.ensures u.1
    ∙ ap (moved a.held.now (known a.scanner) a.piece.now a.out.now) (sym c.in-More.is)

pub returns-in-Frame : goal.returns-in-Frame
returns-in-Frame c =
    let a = c.args in
    let u = c.slide-n-in-Frame.ensures in
    moved_frame_lem a.held.now (known a.scanner) a.piece.now a.out.now c.in-Frame.skipped c.in-Frame.length c.in-Frame.taken _ _ _ _ _ _ (subst (CanHold (length c.args.held.now) c.args.scanner.count (length c.args.piece.now)) c.in-Frame.is c.requires.5).0 u.0 refl c.kind_of.ensures c.onwards-in-Frame.ensures u.1 c.gather.ensures
    ∙ ap (moved a.held.now (known a.scanner) a.piece.now a.out.now) (sym c.in-Frame.is)
