-- `messages::write1230::write_few` meets its contract. Each answer is the one that the signals and the room ask for. Assumes nothing.
use mathlib.Core.Path.{sym, ◌∙◌}
use native.Mathlib.Omega.{arith}
use borrow.Author.Tests.{leb-true, leb-false}
use Rattle.bits.proofs.RefusalLaws.{passed_on_with}
use Rattle.messages.specs.StepsWrite1230.{Faultless1230}
use Rattle.messages.proofs.Write1230Laws.{some_unknown, some_repeat, faultless, too_long, block_fits, block_put}
use Rattle.messages.proofs.write1230.write_few.Goals as goal
use Rattle.messages.proofs.write1230.write_few.Goals.{Else-not-has_room}

-- past the two tests the records have no fault
clean : (c : Else-not-has_room) → Faultless1230 c.args.signals.now c.args.biases.now
clean c = faultless c.args.bytes.now c.args.start c.args.signals.now c.args.biases.now c.requires.0 c.requires.1 c.requires.2 (sym c.in_ok-first_unknown.ensures) (sym c.in_ok-first_repeat.ensures)

pub returns-in_err-first_unknown : goal.returns-in_err-first_unknown
returns-in_err-first_unknown c =
    passed_on_with (λ q. q) _ _ _ c.from_residual.ensures.1
    ∙ some_unknown c.args.bytes.now c.args.start c.args.signals.now c.args.biases.now c.requires.0 c.requires.1 c.requires.2 (sym c.in_err-first_unknown.ensures)

pub returns-in_err-first_repeat : goal.returns-in_err-first_repeat
returns-in_err-first_repeat c =
    passed_on_with (λ q. q) _ _ _ c.from_residual-in_err-first_repeat.ensures.1
    ∙ some_repeat c.args.bytes.now c.args.start c.args.signals.now c.args.biases.now c.requires.0 c.requires.1 c.requires.2 (sym c.in_ok-first_unknown.ensures) (sym c.in_err-first_repeat.ensures)

pub returns-then-not-has_room : goal.returns-then-not-has_room
returns-then-not-has_room c =
    let f = faultless c.args.bytes.now c.args.start c.args.signals.now c.args.biases.now c.requires.0 c.requires.1 c.requires.2 (sym c.in_ok-first_unknown.ensures) (sym c.in_ok-first_repeat.ensures) in
    too_long c.args.bytes.now c.args.start c.args.signals.now c.args.biases.now c.requires.0 f (leb-false _ _ (sym c.has_room.ensures ∙ c.if-not-has_room.true))

pub put_block-requires : goal.put_block-requires
put_block-requires c =
    let f = clean (goal.at.put_block-requires c).Else-not-has_room in
    (block_fits c.args.bytes.now c.args.start c.args.signals.now c.args.biases.now c.requires.0 f (leb-true _ _ (sym c.has_room.ensures ∙ c.if-not-has_room.false)), f)

pub overflow_add-result : goal.overflow_add-result
overflow_add-result c = omega (arith, leb-true _ _ (sym c.has_room.ensures ∙ c.if-not-has_room.false))

pub returns : goal.returns
returns c =
    block_put c.args.bytes.now c.args.start c.args.signals.now c.args.biases.now c.requires.0 (clean (goal.at.returns c).Else-not-has_room) (leb-true _ _ (sym c.has_room.ensures ∙ c.if-not-has_room.false)) _ c.put_block.ensures
