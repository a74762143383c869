-- The first k places of both lists are written. Assumes nothing.
use Rattle.std.proofs.Common.{◌≡◌, ℕ, refl, ap, arith, ◌∙◌}
use lib.ListN.{length-set}
use Rattle.bits.specs.Onto.{onto}
use Rattle.settings.specs.Block.{listed, number_in, priority_in, count_in}
use Rattle.settings.proofs.ListedLaws.{onto_none, onto_next}
use Rattle.settings.proofs.read.take.Goals as goal

pub loop-k-init : goal.loop-k-init
loop-k-init c =
    let a = c.args in
    let s = a.entries.now.block.now in
    (onto_none (number_in s) a.numbers.now, refl, onto_none (priority_in s) a.priorities.now, refl)

pub loop-k-preserved : goal.loop-k-preserved
loop-k-preserved c =
    let a = c.args in
    let s = a.entries.now.block.now in
    let l = c.loop-k in (
      onto_next (number_in s) a.numbers.now l.numbers l.k c.number.result l.invariant.0 (omega arith) c.number.ensures,
      rw length-set l.invariant.1,
      onto_next (priority_in s) a.priorities.now l.priorities l.k c.priority.result l.invariant.2 (omega arith) c.priority.ensures,
      rw length-set l.invariant.3,
    )

pub returns-clause-numbers : goal.returns-clause-numbers
returns-clause-numbers c =
    let a = c.args in
    let e : c.loop-k.k ≡ count_in a.entries.now.block.now = omega (arith, a.entries.now.counted) in
    c.loop-k.invariant.0 ∙ ap (λ (n : ℕ). onto (listed (number_in a.entries.now.block.now) 0 n) a.numbers.now) e

pub returns-clause-priorities : goal.returns-clause-priorities
returns-clause-priorities c =
    let a = c.args in
    let e : c.loop-k.k ≡ count_in a.entries.now.block.now = omega (arith, a.entries.now.counted) in
    c.loop-k.invariant.2 ∙ ap (λ (n : ℕ). onto (listed (priority_in a.entries.now.block.now) 0 n) a.priorities.now) e
