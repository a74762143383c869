-- The loop has come to place i, the bytes up to place end are taken, and no more candidates failed than bytes were skipped. Assumes nothing.
use mathlib.Core.Path.{sym, ap, subst, ◌∙◌}
use Prim.Native.Nat.{◌-◌}
use native.Mathlib.Omega.{arith}
use lib.ListN.{length, length-append}
use Rattle.frames.specs.declared.scan.Searched.TheVariants.{Frame}
use Rattle.frames.proofs.FindLaws.{nearer, one_more_failed, Came, came_first, all_skipped, no_start, waits, bad_fits, good_fits, passed, finds}
use Rattle.frames.proofs.scan.first_frame.Goals as goal

pub loop-i-init : goal.loop-i-init
loop-i-init c = (came_first _ _ _ _ _ _, omega arith)

pub overflow_add-i : goal.overflow_add-i
overflow_add-i c = record { fits = omega arith }

pub find_on-requires : goal.find_on-requires
find_on-requires c = let l = c.loop-i.invariant.0 in (l.reached, l.behind, omega arith)

pub returns-then-i-failed : goal.returns-then-i-failed
returns-then-i-failed c = c.find_on.ensures

pub next_start-start-requires : goal.next_start-start-requires
next_start-start-requires c = (omega arith, omega arith)

pub returns-then-all-start : goal.returns-then-all-start
returns-then-all-start c = no_start _ _ _ _ _ _ _ _ c.loop-i.invariant.0 _ c.next_start-start.ensures (omega arith)

pub candidate_at-requires : goal.candidate_at-requires
candidate_at-requires c =
    let a = c.args in
    (omega arith, omega arith, c.next_start-start.ensures.there (omega (arith, length-append a.held.now a.piece.now)))

pub returns-in-Incomplete : goal.returns-in-Incomplete
returns-in-Incomplete c = waits _ _ _ _ _ _ _ _ c.loop-i.invariant.0 _ c.next_start-start.ensures (sym c.in-Incomplete.is ∙ c.candidate_at.ensures)

pub overflow_add-start : goal.overflow_add-start
overflow_add-start c = record { fits = omega (arith, good_fits _ _ _ _ _ _ _ _ c.loop-i.invariant.0 _ c.next_start-start.ensures _ (sym c.in-Good.is ∙ c.candidate_at.ensures)) }

pub overflow_sub-result : goal.overflow_sub-result
overflow_sub-result c = omega (arith, c.loop-i.invariant.0.behind, c.max.ensures)

pub returns-in-Good : goal.returns-in-Good
returns-in-Good c =
    let a = c.args in
    let j = c.next_start-start in
    ap (λ m. Frame j.result c.in-Good.n (m - length a.held.now)) c.max.ensures ∙ finds _ _ _ _ _ _ _ _ c.loop-i.invariant.0 _ c.next_start-start.ensures _ (sym c.in-Good.is ∙ c.candidate_at.ensures)

pub overflow_add-start-in-NotValid : goal.overflow_add-start-in-NotValid
overflow_add-start-in-NotValid c = record { fits = omega (arith, bad_fits _ _ _ _ _ _ _ _ c.loop-i.invariant.0 _ c.next_start-start.ensures _ (sym c.in-NotValid.is ∙ c.candidate_at.ensures)) }

pub overflow_add-failed : goal.overflow_add-failed
overflow_add-failed c = record { fits = omega (arith, c.loop-i.invariant.1) }

pub loop-i-smaller : goal.loop-i-smaller
loop-i-smaller c = nearer _ _ _ c.loop-i-test.true c.next_start-start.ensures.from

pub loop-i-preserved : goal.loop-i-preserved
loop-i-preserved c =
    let l = c.loop-i in
    let j = c.next_start-start in
    (subst (Came _ _ _ _ _ _ _) (sym c.max-end.ensures) (passed _ _ _ _ _ _ _ _ c.loop-i.invariant.0 _ c.next_start-start.ensures _ (sym c.in-NotValid.is ∙ c.candidate_at.ensures)), one_more_failed _ _ _ l.invariant.1 j.ensures.from)

pub returns : goal.returns
returns c = all_skipped _ _ _ _ _ _ _ _ c.loop-i.invariant.0 (omega arith)
