-- `messages::pen::Pen::draw` meets its contract. The number is held behind what is held, and the first 32 bits of both are stored once there are so many. Assumes nothing.
use borrow.Author.Rules.{rules}
use native.Mathlib.Omega.{arith}
use Rattle.bits.specs.Fields.{Bytes}
use Rattle.messages.proofs.PenLaws.{one_within, one_put, joined_fits, drawn_few, drawn_four}
use Rattle.messages.proofs.pen.Pen.draw.Goals as goal

pub overflow_add-at : goal.overflow_add-at
overflow_add-at c =
    omega (arith, (one_within c.args.bytes.now c.args.self.at c.args.self.bits c.requires.0).1, (one_within c.args.bytes.now c.args.self.at c.args.self.bits c.requires.0).0)

pub overflow_add-bits : goal.overflow_add-bits
overflow_add-bits c =
    let w = one_within c.args.bytes.now c.args.self.at c.args.self.bits c.requires.0 in
    let b : Bytes c.args.bytes.now = record { byte = λ k. (c.type_inv.bytes k).fits } in
    omega (arith, joined_fits c.args.bytes.now c.args.self.at c.args.self.bits c.args.width c.args.number b w.1 c.requires.1 c.requires.2)

pub returns-then-self-width-lt32 : goal.returns-then-self-width-lt32
returns-then-self-width-lt32 c =
    let w = one_within c.args.bytes.now c.args.self.at c.args.self.bits c.requires.0 in
    let b : Bytes c.args.bytes.now = record { byte = λ k. (c.type_inv.bytes k).fits } in
    one_put _ _ _ _ (drawn_few c.args.bytes.now c.args.self.at c.args.self.bits c.args.width c.args.number b w.1 c.requires.1 c.requires.2 c.if-self-width-lt32.true)

pub put_four-requires : goal.put_four-requires
put_four-requires c =
    let w = one_within c.args.bytes.now c.args.self.at c.args.self.bits c.requires.0 in
    (omega (arith, w.1, c.if-self-width-lt32.false), w.0, record { byte = λ k. search rules })

pub returns : goal.returns
returns c =
    let w = one_within c.args.bytes.now c.args.self.at c.args.self.bits c.requires.0 in
    let b : Bytes c.args.bytes.now = record { byte = λ k. search rules } in
    one_put _ _ _ _ (drawn_four c.args.bytes.now c.args.self.at c.args.self.bits c.args.width c.args.number b w.1 c.requires.1 c.requires.2 (omega (arith, c.if-self-width-lt32.false)) c.put_four.ensures)
