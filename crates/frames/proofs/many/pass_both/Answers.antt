-- The loop has come to place i, and every byte before it is skipped. Assumes nothing.
use mathlib.Core.Path.{sym, subst}
use Prim.Native.Nat.{◌+◌}
use native.Mathlib.Omega.{arith}
use lib.ListN.{length, length-append}
use Rattle.frames.specs.Modes.{framing_of}
use Rattle.frames.specs.Steps.{starts_either, starts_in, Passes}
use Rattle.frames.proofs.CandidateLaws.{start_right}
use Rattle.frames.proofs.ModeLaws.{lawful}
use Rattle.frames.proofs.StartLaws.{mode_starts}
use Rattle.frames.proofs.PassLaws.{pass_none, fail_fits, pass_more}
use Rattle.frames.proofs.many.pass_both.Goals as goal

pub loop-i-init : goal.loop-i-init
loop-i-init c =
    let a = c.args in
    let p = c.requires in
    pass_none (framing_of 1) (lawful 1) (starts_in 1) (mode_starts 1) a.held.now a.piece.now _ _ p.0 p.1

pub returns-then-i-h : goal.returns-then-i-h
returns-then-i-h c = c.loop-i.invariant

pub next_either-requires : goal.next_either-requires
next_either-requires c = omega (arith, c.loop-i.invariant.within)

pub overflow_add-j : goal.overflow_add-j
overflow_add-j c = record { fits = omega (arith, c.next_either.ensures.within, c.requires.2) }

pub returns-then-all-j : goal.returns-then-all-j
returns-then-all-j c = c.loop-i.invariant

pub failing-requires : goal.failing-requires
failing-requires c =
    let a = c.args in
    let p = c.requires in
    let t = start_right starts_either c.args.held.now c.args.piece.now c.loop-i.i _ c.if-i-h.false c.next_either.ensures in
    let i = c.loop-i.invariant in
    (omega arith, omega arith, p.2, t.there (omega (arith, length-append a.held.now a.piece.now)), omega (arith, p.3, i.on, t.from), omega (arith, p.4, i.on, t.from), p.5)

pub returns-in_default : goal.returns-in_default
returns-in_default c = c.loop-i.invariant

pub overflow_add-j-in-loop-i : goal.overflow_add-j-in-loop-i
overflow_add-j-in-loop-i c =
    let a = c.args in
    let p = c.requires in
    record { fits = omega (arith, p.2, fail_fits (framing_of 1) (lawful 1) (starts_in 1) (mode_starts 1) a.held.now a.piece.now (length a.held.now + c.next_either.result) c.in-Some.n (omega arith) c.in-Some.ensures) }

pub overflow_add-i : goal.overflow_add-i
overflow_add-i c = record { fits = omega (arith, c.requires.2) }

pub loop-i-smaller : goal.loop-i-smaller
loop-i-smaller c = let t = start_right starts_either c.args.held.now c.args.piece.now c.loop-i.i _ c.if-i-h.false c.next_either.ensures in omega (arith, t.from)

pub loop-i-preserved : goal.loop-i-preserved
loop-i-preserved c =
    let a = c.args in
    let p = c.requires in
    let t = start_right starts_either c.args.held.now c.args.piece.now c.loop-i.i _ c.if-i-h.false c.next_either.ensures in
    subst (Passes (framing_of 1) a.held.now a.piece.now a.from a.first _) (sym c.max-end.ensures) (pass_more (framing_of 1) (lawful 1) (starts_in 1) (mode_starts 1) a.held.now a.piece.now _ _ _ _ c.loop-i.invariant _ t _ c.in-Some.ensures)

pub returns : goal.returns
returns c = c.loop-i.invariant
