-- The loop has come to place i, and the bytes up to place end are taken. Assumes nothing.
use mathlib.Core.Path.{◌≡◌, refl, sym, ap, subst, ◌∙◌}
use Prim.Native.Nat.{◌+◌, max}
use native.Mathlib.Omega.{arith}
use lib.ListN.{length, length-append}
use Rattle.frames.specs.Modes.{framing_of}
use Rattle.frames.specs.Steps.{starts_rtcm, starts_in, Passes}
use borrow.Author.Tests.{eqb-true}
use Rattle.frames.proofs.CandidateLaws.{start_right}
use Rattle.frames.proofs.UbxCandidateLaws.{only_rtcm}
use Rattle.frames.proofs.ModeLaws.{lawful}
use Rattle.frames.proofs.StartLaws.{mode_starts}
use Rattle.frames.proofs.ManyLaws.{both_bytes}
use Rattle.frames.proofs.PassLaws.{pass_none, pass_more, rtcm_fails}
use Rattle.frames.proofs.many.pass.Goals as goal

pub loop-i-init : goal.loop-i-init
loop-i-init c = let p = c.requires in pass_none (framing_of 0) (lawful 0) (starts_in 0) (mode_starts 0) _ _ _ _ p.0 p.1

pub returns-then-i-h : goal.returns-then-i-h
returns-then-i-h c = c.loop-i.invariant

pub next_d3-d-requires : goal.next_d3-d-requires
next_d3-d-requires c =
    let a = c.args in
    let w = c.requires.4 in
    omega (arith, w.within, length-append a.held.now a.piece.now, c.saturating_sub-last.ensures)

pub overflow_add-j : goal.overflow_add-j
overflow_add-j c = record { fits = omega (arith, c.next_d3-d.ensures.within, c.requires.2) }

pub returns-then-last-j : goal.returns-then-last-j
returns-then-last-j c = c.loop-i.invariant

pub data_length-n-requires : goal.data_length-n-requires
data_length-n-requires c =
    let a = c.args in
    omega (arith, c.requires.4.within, length-append a.held.now a.piece.now, c.saturating_sub-last.ensures)

pub overflow_sub-at : goal.overflow_sub-at
overflow_sub-at c = omega (arith, c.requires.4.within, c.requires.4.room, length-append c.args.held.now c.args.piece.now, c.saturating_sub-last.ensures, c.next_d3-d.ensures.from, c.next_d3-d.ensures.within, c.loop-i.invariant.on, c.requires.3, c.requires.2, c.data_length-n.ensures.1, c.if-last-j.false, c.if-i-h.false)

pub bounds-sums-at : goal.bounds-sums-at
bounds-sums-at c = omega (arith, c.requires.4.within, c.requires.4.room, length-append c.args.held.now c.args.piece.now, c.saturating_sub-last.ensures, c.next_d3-d.ensures.from, c.next_d3-d.ensures.within, c.loop-i.invariant.on, c.requires.3, c.requires.2, c.data_length-n.ensures.1, c.if-last-j.false, c.if-i-h.false)

pub overflow_add-at : goal.overflow_add-at
overflow_add-at c = record { fits = omega (arith, c.requires.4.within, c.requires.4.room, length-append c.args.held.now c.args.piece.now, c.saturating_sub-last.ensures, c.next_d3-d.ensures.from, c.next_d3-d.ensures.within, c.loop-i.invariant.on, c.requires.3, c.requires.2, c.data_length-n.ensures.1, c.if-last-j.false, c.if-i-h.false) }

pub overflow_add-at-in-loop-i : goal.overflow_add-at-in-loop-i
overflow_add-at-in-loop-i c = record { fits = omega (arith, c.requires.4.within, c.requires.4.room, length-append c.args.held.now c.args.piece.now, c.saturating_sub-last.ensures, c.next_d3-d.ensures.from, c.next_d3-d.ensures.within, c.loop-i.invariant.on, c.requires.3, c.requires.2, c.data_length-n.ensures.1, c.if-last-j.false, c.if-i-h.false) }

pub bounds-sums-at-in-loop-i : goal.bounds-sums-at-in-loop-i
bounds-sums-at-in-loop-i c = omega (arith, c.requires.4.within, c.requires.4.room, length-append c.args.held.now c.args.piece.now, c.saturating_sub-last.ensures, c.next_d3-d.ensures.from, c.next_d3-d.ensures.within, c.loop-i.invariant.on, c.requires.3, c.requires.2, c.data_length-n.ensures.1, c.if-last-j.false, c.if-i-h.false)

pub returns-then-sums-at : goal.returns-then-sums-at
returns-then-sums-at c = c.loop-i.invariant

pub overflow_add-j-in-loop-i : goal.overflow_add-j-in-loop-i
overflow_add-j-in-loop-i c = record { fits = omega (arith, c.requires.4.within, c.requires.4.room, length-append c.args.held.now c.args.piece.now, c.saturating_sub-last.ensures, c.next_d3-d.ensures.from, c.next_d3-d.ensures.within, c.loop-i.invariant.on, c.requires.3, c.requires.2, c.data_length-n.ensures.1, c.if-last-j.false, c.if-i-h.false) }

pub overflow_add-j-in-loop-i-2 : goal.overflow_add-j-in-loop-i-2
overflow_add-j-in-loop-i-2 c = record { fits = omega (arith, c.requires.4.within, c.requires.4.room, length-append c.args.held.now c.args.piece.now, c.saturating_sub-last.ensures, c.next_d3-d.ensures.from, c.next_d3-d.ensures.within, c.loop-i.invariant.on, c.requires.3, c.requires.2, c.data_length-n.ensures.1, c.if-last-j.false, c.if-i-h.false) }

pub overflow_add-i : goal.overflow_add-i
overflow_add-i c = record { fits = omega (arith, c.requires.4.within, c.requires.4.room, length-append c.args.held.now c.args.piece.now, c.saturating_sub-last.ensures, c.next_d3-d.ensures.from, c.next_d3-d.ensures.within, c.loop-i.invariant.on, c.requires.3, c.requires.2, c.data_length-n.ensures.1, c.if-last-j.false, c.if-i-h.false) }

pub loop-i-smaller : goal.loop-i-smaller
loop-i-smaller c = omega (arith, c.requires.4.within, c.requires.4.room, length-append c.args.held.now c.args.piece.now, c.saturating_sub-last.ensures, c.next_d3-d.ensures.from, c.next_d3-d.ensures.within, c.loop-i.invariant.on, c.requires.3, c.requires.2, c.data_length-n.ensures.1, c.if-last-j.false, c.if-i-h.false)

pub loop-i-preserved : goal.loop-i-preserved
loop-i-preserved c =
    let a = c.args in
    let p = c.requires in
    let l = c.loop-i.invariant in
    let n = c.data_length-n.ensures in
    let t = start_right starts_rtcm a.held.now a.piece.now _ _ c.if-i-h.false c.next_d3-d.ensures in
    let j : length a.held.now + c.next_d3-d.result + (c.data_length-n.result + 6) ≡ length a.held.now + c.next_d3-d.result + c.data_length-n.result + 6 = omega arith in
    subst (Passes (framing_of 0) a.held.now a.piece.now a.from a.first _) (ap (max _) j ∙ sym c.max-end.ensures)
    (pass_more (framing_of 0) (lawful 0) (starts_in 0) (mode_starts 0) a.held.now a.piece.now _ _ _ _ l _ t _
    (rtcm_fails a.held.now a.piece.now a.sums.now a.base a.stop p.4
    (both_bytes a.held.now a.piece.now (λ k. (c.type_inv.held k).fits) (λ k. (c.type_inv.piece k).fits))
    _ _ refl (omega (arith, p.3, l.on, t.from)) (omega (arith, c.requires.4.within, c.requires.4.room, length-append c.args.held.now c.args.piece.now, c.saturating_sub-last.ensures, c.next_d3-d.ensures.from, c.next_d3-d.ensures.within, c.loop-i.invariant.on, c.requires.3, c.requires.2, c.data_length-n.ensures.1, c.if-last-j.false, c.if-i-h.false)) (eqb-true _ _ (t.there (omega (arith, c.requires.4.within, c.requires.4.room, length-append c.args.held.now c.args.piece.now, c.saturating_sub-last.ensures, c.next_d3-d.ensures.from, c.next_d3-d.ensures.within, c.loop-i.invariant.on, c.requires.3, c.requires.2, c.data_length-n.ensures.1, c.if-last-j.false, c.if-i-h.false)))) _ n.0 n.1 c.if-sums-at.false
    ∙ only_rtcm 0 _ refl))

pub returns : goal.returns
returns c = c.loop-i.invariant
