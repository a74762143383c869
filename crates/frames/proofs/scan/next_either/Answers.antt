-- The loop has passed no start byte. Assumes nothing.
use mathlib.Core.Path.{◌≡◌, sym, ◌∙◌}
use mathlib.Core.Bool.{false}
use Prim.Native.Nat.{◌≤◌}
use native.Mathlib.Omega.{arith}
use lib.ListN.{get_or}
use Rattle.frames.specs.Steps.{starts_either}
use Rattle.frames.proofs.AmongLaws.{none_of, neither, below_run, first_from_lem}
use Rattle.frames.proofs.scan.next_either.Goals as goal

pub loop-i-init : goal.loop-i-init
loop-i-init c = (omega arith, c.requires, λ k a b. absurd (omega arith))

pub returns-then-has : goal.returns-then-has
returns-then-has c =
    let a = c.args in
    let l = c.loop-i in
    first_from_lem starts_either a.part.now a.from l.i c.near_either.result l.invariant.0 l.invariant.2 c.near_either.ensures

pub returns-then-has-2 : goal.returns-then-has-2
returns-then-has-2 c =
    let a = c.args in
    let l = c.loop-i in
    first_from_lem starts_either a.part.now a.from l.i c.near_either-then-has-2.result l.invariant.0 l.invariant.2 c.near_either-then-has-2.ensures

pub loop-i-preserved : goal.loop-i-preserved
loop-i-preserved c =
    let a = c.args in
    let l = c.loop-i in
    (omega arith, omega arith, below_run (λ k. a.from ≤ k → starts_either (get_or a.part.now k 0) ≡ false) l.i 16 l.invariant.2 (λ k g h _. neither (get_or a.part.now k 0) (none_of 0xB5 a.part.now l.i (sym c.has.ensures ∙ c.if-has.false) k g h) (none_of 0xD3 a.part.now l.i (sym c.has-in-loop-i.ensures ∙ c.if-has-2.false) k g h)))

pub returns : goal.returns
returns c =
    let a = c.args in
    let l = c.loop-i in
    first_from_lem starts_either a.part.now a.from l.i c.near_either-2.result l.invariant.0 l.invariant.2 c.near_either-2.ensures
