-- The loop has come to place i, the bytes up to place end are taken, and windows that begin at or before place i are at hand. Assumes nothing.
use mathlib.Core.Path.{refl, sym, ap, subst, ◌∙◌}
use Prim.Native.Nat.{◌+◌, ◌-◌}
use native.Mathlib.Omega.{arith}
use lib.ListN.{length, length-append}
use Rattle.frames.specs.declared.scan.Searched.TheVariants.{Frame}
use Rattle.frames.proofs.FindLaws.{less_again, sum_fits, next_fits, Came, all_skipped, no_start, waits, bad_fits, good_fits, passed, finds}
use Rattle.frames.proofs.RunLaws.{begins_ready}
use Rattle.frames.proofs.many.find_by.Goals as goal

pub open-near-requires : goal.open-near-requires
open-near-requires c = let p = c.requires in (omega (arith, p.0.0, p.0.1, p.1), p.2, omega arith, refl)

pub loop-i-init : goal.loop-i-init
loop-i-init c =
    let p = c.requires in
    let a = c.args in
    let w = c.open-near.ensures in
    let b = c.begun-at.ensures in
    let l = length-append a.held.now a.piece.now in (
      record { behind = p.1; reached = p.0 },
      omega (arith, w.0, b.0),
      omega (arith, b.2),
      begins_ready b.0 b.1 b.2 b.3 w.2 w.3 (omega (arith, l, p.0.0, p.0.1, p.1)) p.3 p.4,
      refl,
    )

pub next_start-j-requires : goal.next_start-j-requires
next_start-j-requires c = (omega arith, omega arith)

pub shape_of-runs-then-all-j : goal.shape_of-runs-then-all-j
shape_of-runs-then-all-j c = c.loop-i.invariant.4

pub returns-then-all-j : goal.returns-then-all-j
returns-then-all-j c = no_start _ _ _ _ _ _ _ _ c.loop-i.invariant.0 _ c.next_start-j.ensures (omega arith)

pub judge-judged-requires : goal.judge-judged-requires
judge-judged-requires c =
    let a = c.args in
    let l = c.loop-i.invariant in
    let j = c.next_start-j.ensures in
    (omega arith, omega arith, j.there (omega (arith, length-append a.held.now a.piece.now)), omega (arith, l.1, j.from), omega (arith, l.2, j.from), l.3)

pub shape_of-runs-in-Incomplete : goal.shape_of-runs-in-Incomplete
shape_of-runs-in-Incomplete c = c.judge-judged.ensures.4 ∙ c.loop-i.invariant.4

pub returns-in-Incomplete : goal.returns-in-Incomplete
returns-in-Incomplete c = waits _ _ _ _ _ _ _ _ c.loop-i.invariant.0 _ c.next_start-j.ensures (sym c.in-Incomplete.is ∙ c.judge-judged.ensures.0)

pub overflow_add-j : goal.overflow_add-j
overflow_add-j c = let a = c.args in record { fits = sum_fits c.next_start-j.result c.in-Good.n (length a.held.now + length a.piece.now) (good_fits _ _ _ _ _ _ _ _ c.loop-i.invariant.0 _ c.next_start-j.ensures _ (sym c.in-Good.is ∙ c.judge-judged.ensures.0)) c.requires.2 }

pub overflow_sub-result : goal.overflow_sub-result
overflow_sub-result c = omega (arith, c.loop-i.invariant.0.behind, c.max.ensures)

pub shape_of-runs-in-Good : goal.shape_of-runs-in-Good
shape_of-runs-in-Good c = c.judge-judged.ensures.4 ∙ c.loop-i.invariant.4

pub returns-in-Good : goal.returns-in-Good
returns-in-Good c =
    let a = c.args in
    let j = c.next_start-j in
    ap (λ m. Frame j.result c.in-Good.n (m - length a.held.now)) c.max.ensures
    ∙ finds _ _ _ _ _ _ _ _ c.loop-i.invariant.0 _ c.next_start-j.ensures _ (sym c.in-Good.is ∙ c.judge-judged.ensures.0)

pub overflow_add-j-in-NotValid : goal.overflow_add-j-in-NotValid
overflow_add-j-in-NotValid c = let a = c.args in record { fits = sum_fits c.next_start-j.result c.in-NotValid.n (length a.held.now + length a.piece.now) (bad_fits _ _ _ _ _ _ _ _ c.loop-i.invariant.0 _ c.next_start-j.ensures _ (sym c.in-NotValid.is ∙ c.judge-judged.ensures.0)) c.requires.2 }

pub overflow_add-j-in-NotValid-2 : goal.overflow_add-j-in-NotValid-2
overflow_add-j-in-NotValid-2 c = let a = c.args in record { fits = next_fits c.next_start-j.result (length a.held.now + length a.piece.now) (omega arith) c.requires.2 }

pub pass_both-on-requires : goal.pass_both-on-requires
pass_both-on-requires c =
    let p = c.requires in
    let w = c.judge-judged.ensures in
    let g = subst (Came _ _ _ _ _ _ _) (sym c.max-taken.ensures) (passed _ _ _ _ _ _ _ _ c.loop-i.invariant.0 _ c.next_start-j.ensures _ (sym c.in-NotValid.is ∙ w.0)) in
    (omega arith, g.behind, p.2, less_again _ _ w.1, less_again _ _ w.2, w.3)

pub loop-i-smaller : goal.loop-i-smaller
loop-i-smaller c = omega (arith, c.pass_both-on.ensures.on, c.next_start-j.ensures.from, c.loop-i-test.true)

pub loop-i-preserved : goal.loop-i-preserved
loop-i-preserved c =
    let p = c.pass_both-on.ensures in
    let w = c.judge-judged.ensures in
    let g = subst (Came _ _ _ _ _ _ _) (sym c.max-taken.ensures) (passed _ _ _ _ _ _ _ _ c.loop-i.invariant.0 _ c.next_start-j.ensures _ (sym c.in-NotValid.is ∙ w.0)) in
    (record { behind = p.behind; reached = p.reaches g.reached }, omega (arith, w.1, p.on), omega (arith, w.2, p.on), w.3, w.4 ∙ c.loop-i.invariant.4)

pub shape_of-runs : goal.shape_of-runs
shape_of-runs c = c.loop-i.invariant.4

pub returns : goal.returns
returns c = all_skipped _ _ _ _ _ _ _ _ c.loop-i.invariant.0 (omega arith)
