-- The block is judged, and then its entries are taken. Assumes nothing.
use Rattle.std.proofs.Common.{ap, List, ℕ, ◌∙◌}
use Rattle.bits.specs.Told.{Accepted}
use Rattle.bits.specs.Outcome.{outcome}
use Rattle.bits.specs.Onto.{onto}
use Rattle.settings.specs.Block.{numbers_in, priorities_in}
use Rattle.settings.specs.Read.{found}
use Rattle.settings.proofs.ReadLaws.{bad_numbers, bad_priorities, refused_read, accepted_read}
use Rattle.settings.proofs.read.read.Goals as goal
use Rattle.settings.proofs.read.read.Goals.{then-numbers-ne64-via-then-numbers-ne64, then-numbers-ne64-via-else-numbers-ne64+then-priorities-ne64}

pub returns-then-numbers-ne64 : goal.returns-then-numbers-ne64
returns-then-numbers-ne64 c =
    let a = c.args in
    elim c.then-numbers-ne64.branch [
      | then-numbers-ne64-via-then-numbers-ne64 w ↦ bad_numbers a.block.now a.reader a.index a.numbers.now a.priorities.now w.if-numbers-ne64.true
      | then-numbers-ne64-via-else-numbers-ne64+then-priorities-ne64 w ↦
          bad_priorities a.block.now a.reader a.index a.numbers.now a.priorities.now w.if-numbers-ne64.false w.if-priorities-ne64.true
    ]

pub returns-in_err-entries : goal.returns-in_err-entries
returns-in_err-entries c =
    let a = c.args in
    refused_read a.block.now a.reader a.index a.numbers.now a.priorities.now c.if-numbers-ne64.false c.if-priorities-ne64.false c.judge.result c.judge.ensures.tells _ c.in_err-entries.was _ c.from_residual.ensures.1

pub returns : goal.returns
returns c =
    let a = c.args in
    let n = a.numbers.now in
    let p = a.priorities.now in
    let e = c.in_ok-entries.entries in
    ap (λ (d : ℕ). outcome (Accepted (found e.count d)) (c.take.new.numbers, c.take.new.priorities)) (c.from.ensures ∙ c.number.ensures)
    ∙ accepted_read a.block.now a.reader a.index n p c.if-numbers-ne64.false c.if-priorities-ne64.false c.judge.result c.judge.ensures.tells e c.in_ok-entries.was _ _
    (c.take.ensures.numbers ∙ ap (λ (s : List ℕ). onto (numbers_in s) n) c.in_ok-entries.ensures.of_block)
    (c.take.ensures.priorities ∙ ap (λ (s : List ℕ). onto (priorities_in s) p) c.in_ok-entries.ensures.of_block)
