-- The loop has come to place i, the bytes up to place end are taken, and a window that begins at or before place i is at hand. Assumes nothing.
use mathlib.Core.Path.{refl, sym, ap, subst, ◌∙◌}
use Prim.Native.Nat.{◌-◌}
use native.Mathlib.Omega.{arith}
use lib.ListN.{length, length-append}
use borrow.Author.Tests.{eqb-true}
use Rattle.frames.specs.declared.scan.Searched.TheVariants.{Frame}
use Rattle.frames.proofs.FindLaws.{less_again, Came, all_skipped, no_start, waits, bad_fits, good_fits, passed, finds}
use Rattle.frames.proofs.many.find_rtcm.Goals as goal

pub open-near-requires : goal.open-near-requires
open-near-requires c = let p = c.requires in (omega (arith, p.0.0, p.0.1, p.1), p.2, omega arith, refl)

pub loop-i-init : goal.loop-i-init
loop-i-init c = let p = c.requires in (record { behind = p.1; reached = p.0 }, omega (arith, c.open-near.ensures.0), c.open-near.ensures.2, c.open-near.ensures.3)

pub next_start-j-requires : goal.next_start-j-requires
next_start-j-requires c = (omega arith, omega arith)

pub returns-then-all-j : goal.returns-then-all-j
returns-then-all-j c = no_start _ _ _ _ _ _ _ _ c.loop-i.invariant.0 _ c.next_start-j.ensures (omega arith)

pub cover-window-requires : goal.cover-window-requires
cover-window-requires c = let l = c.loop-i.invariant in (omega arith, omega arith, l.3, omega (arith, l.1, c.next_start-j.ensures.from), l.2)

pub rtcm_in-requires : goal.rtcm_in-requires
rtcm_in-requires c =
    let a = c.args in
    let w = c.cover-window.ensures in
    (omega arith, omega arith, eqb-true _ _ (c.next_start-j.ensures.there (omega (arith, length-append a.held.now a.piece.now))), w.0, w.1, w.2)

pub returns-in-Incomplete : goal.returns-in-Incomplete
returns-in-Incomplete c = waits _ _ _ _ _ _ _ _ c.loop-i.invariant.0 _ c.next_start-j.ensures (sym c.in-Incomplete.is ∙ c.rtcm_in.ensures)

pub overflow_add-j : goal.overflow_add-j
overflow_add-j c = record { fits = omega (arith, good_fits _ _ _ _ _ _ _ _ c.loop-i.invariant.0 _ c.next_start-j.ensures _ (sym c.in-Good.is ∙ c.rtcm_in.ensures)) }

pub overflow_sub-result : goal.overflow_sub-result
overflow_sub-result c = omega (arith, c.loop-i.invariant.0.behind, c.max.ensures)

pub returns-in-Good : goal.returns-in-Good
returns-in-Good c =
    let a = c.args in
    let j = c.next_start-j in
    ap (λ m. Frame j.result c.in-Good.n (m - length a.held.now)) c.max.ensures ∙ finds _ _ _ _ _ _ _ _ c.loop-i.invariant.0 _ c.next_start-j.ensures _ (sym c.in-Good.is ∙ c.rtcm_in.ensures)

pub overflow_add-j-in-NotValid : goal.overflow_add-j-in-NotValid
overflow_add-j-in-NotValid c = record { fits = omega (arith, bad_fits _ _ _ _ _ _ _ _ c.loop-i.invariant.0 _ c.next_start-j.ensures _ (sym c.in-NotValid.is ∙ c.rtcm_in.ensures)) }

pub overflow_add-j-in-NotValid-2 : goal.overflow_add-j-in-NotValid-2
overflow_add-j-in-NotValid-2 c = record { fits = omega arith }

pub pass-on-requires : goal.pass-on-requires
pass-on-requires c =
    let w = c.cover-window.ensures in
    let g = subst (Came _ _ _ _ _ _ _) (sym c.max-taken.ensures) (passed _ _ _ _ _ _ _ _ c.loop-i.invariant.0 _ c.next_start-j.ensures _ (sym c.in-NotValid.is ∙ c.rtcm_in.ensures)) in
    (omega arith, g.behind, c.requires.2, less_again _ _ w.0, w.2)

pub loop-i-smaller : goal.loop-i-smaller
loop-i-smaller c = omega (arith, c.pass-on.ensures.on, c.next_start-j.ensures.from, c.loop-i-test.true)

pub loop-i-preserved : goal.loop-i-preserved
loop-i-preserved c =
    let w = c.cover-window.ensures in
    let p = c.pass-on.ensures in
    let g = subst (Came _ _ _ _ _ _ _) (sym c.max-taken.ensures) (passed _ _ _ _ _ _ _ _ c.loop-i.invariant.0 _ c.next_start-j.ensures _ (sym c.in-NotValid.is ∙ c.rtcm_in.ensures)) in
    (record { behind = p.behind; reached = p.reaches g.reached }, omega (arith, w.0, p.on), w.2, w.3)

pub returns : goal.returns
returns c = all_skipped _ _ _ _ _ _ _ _ c.loop-i.invariant.0 (omega arith)
