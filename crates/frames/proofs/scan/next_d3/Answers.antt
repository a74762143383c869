-- The loop has passed no start byte. Assumes nothing.
use mathlib.Core.Path.{◌≡◌, sym, ◌∙◌}
use mathlib.Core.Bool.{false}
use Prim.Native.Nat.{◌≤◌}
use native.Mathlib.Omega.{arith}
use lib.ListN.{get_or}
use borrow.Author.Tests.{eq-eqb}
use Rattle.frames.specs.Steps.{starts_rtcm}
use Rattle.frames.proofs.AmongLaws.{none_of, below_run, first_from_lem}
use Rattle.frames.proofs.scan.next_d3.Goals as goal

pub returns-then-part-i : goal.returns-then-part-i
returns-then-part-i c =
    let h = c.requires in
    record { from = omega arith; within = omega (arith, h); none = λ k a b. absurd (omega arith); there = λ a. eq-eqb _ _ c.if-part-i.true }

pub loop-i-init : goal.loop-i-init
loop-i-init c = (omega arith, c.requires, λ k a b. absurd (omega arith))

pub returns-then-has : goal.returns-then-has
returns-then-has c =
    let a = c.args in
    let l = c.loop-i in
    first_from_lem starts_rtcm a.part.now a.from l.i c.near_d3.result l.invariant.0 l.invariant.2 c.near_d3.ensures

pub loop-i-preserved : goal.loop-i-preserved
loop-i-preserved c =
    let a = c.args in
    let l = c.loop-i in
    (omega arith, omega arith, below_run (λ k. a.from ≤ k → starts_rtcm (get_or a.part.now k 0) ≡ false) l.i 16 l.invariant.2 (λ k g h _. none_of 0xD3 a.part.now l.i (sym c.has.ensures ∙ c.if-has.false) k g h))

pub returns : goal.returns
returns c =
    let a = c.args in
    let l = c.loop-i in
    first_from_lem starts_rtcm a.part.now a.from l.i c.near_d3-2.result l.invariant.0 l.invariant.2 c.near_d3-2.ensures
