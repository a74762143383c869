-- Each refusal in its order, then the block. Assumes nothing.
use Rattle.std.proofs.Common.{ap, ap₂, ℕ, arith, ◌∙◌, Some, None}
use Rattle.bits.specs.Told.{Accepted}
use Rattle.bits.specs.Outcome.{outcome}
use Rattle.bits.specs.Onto.{onto}
use Rattle.settings.specs.Block.{block_of}
use Rattle.settings.proofs.SearchLaws.{first_pair_of}
use Rattle.settings.proofs.WriteLaws.{no_such_edition, is_known, unequal_lists, long_lists, high_index, bad_entry, no_room, is_written}
use Rattle.settings.proofs.write.write.Goals as goal
use Rattle.settings.proofs.write.write.Goals.{then-numbers-priorities-via-then-numbers-priorities, then-numbers-priorities-via-else-numbers-priorities+then-numbers-gt64}

pub returns-in_err-edition : goal.returns-in_err-edition
returns-in_err-edition c =
    let a = c.args in
    no_such_edition a.edition a.index a.numbers.now a.priorities.now a.out.now _ _ c.from_residual.ensures.1 c.in_err-edition.ensures.0 c.in_err-edition.ensures.1

pub returns-then-numbers-priorities : goal.returns-then-numbers-priorities
returns-then-numbers-priorities c =
    let a = c.args in
    elim c.then-numbers-priorities.branch [
      | then-numbers-priorities-via-then-numbers-priorities w ↦
          unequal_lists a.edition a.index a.numbers.now a.priorities.now a.out.now (is_known _ _ c.in_ok-edition.ensures) w.if-numbers-priorities.true
      | then-numbers-priorities-via-else-numbers-priorities+then-numbers-gt64 w ↦
          long_lists a.edition a.index a.numbers.now a.priorities.now a.out.now (is_known _ _ c.in_ok-edition.ensures) w.if-numbers-priorities.false w.if-numbers-gt64.true
    ]

-- an index above 65,535
-- is told whatever the entries and the output are
pub returns-in_default : goal.returns-in_default
returns-in_default c =
    let a = c.args in
    high_index a.edition a.index a.numbers.now a.priorities.now a.out.now (is_known _ _ c.in_ok-edition.ensures) c.if-numbers-priorities.false c.if-numbers-gt64.false (omega (arith, c.in_default.ensures))

pub returns-in-Some : goal.returns-in-Some
returns-in-Some c =
    let a = c.args in
    let f = first_pair_of _ _ a.numbers.now a.priorities.now (Some c.in-Some.k) c.in_ok-edition.ensures c.if-numbers-priorities.false c.in-Some.ensures in
    bad_entry a.edition a.index a.numbers.now a.priorities.now a.out.now (is_known _ _ c.in_ok-edition.ensures) c.if-numbers-priorities.false c.if-numbers-gt64.false (omega (arith, c.in-Ok.ensures.0)) _ f.0 f.1

pub returns-then-out-lt512 : goal.returns-then-out-lt512
returns-then-out-lt512 c =
    let a = c.args in
    no_room a.edition a.index a.numbers.now a.priorities.now a.out.now (is_known _ _ c.in_ok-edition.ensures) c.if-numbers-priorities.false c.if-numbers-gt64.false (omega (arith, c.in-Ok.ensures.0))
    (first_pair_of _ _ a.numbers.now a.priorities.now None c.in_ok-edition.ensures c.if-numbers-priorities.false c.in_default-first_bad.ensures) c.if-out-lt512.true

pub returns : goal.returns
returns c =
    let a = c.args in
    ap (outcome (Accepted 512)) (c.put_block.ensures ∙ ap₂ (λ (e i : ℕ). onto (block_of e i a.numbers.now a.priorities.now) a.out.now) c.in_ok-edition.ensures c.in-Ok.ensures.1)
    ∙ is_written a.edition a.index a.numbers.now a.priorities.now a.out.now (is_known _ _ c.in_ok-edition.ensures) c.if-numbers-priorities.false c.if-numbers-gt64.false (omega (arith, c.in-Ok.ensures.0))
    (first_pair_of _ _ a.numbers.now a.priorities.now None c.in_ok-edition.ensures c.if-numbers-priorities.false c.in_default-first_bad.ensures) c.if-out-lt512.false
