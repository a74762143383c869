-- `messages::write1230::put_block` meets its contract. The bits and the biases of the four signals are joined, and the number that they make is put. Assumes nothing.
use borrow.Author.Rules.{rules}
use mathlib.Core.Path.{◌∙◌}
use native.Mathlib.Omega.{arith}
use Rattle.messages.proofs.Fields1230Laws.{bits_is}
use Rattle.messages.proofs.Joined1230Laws.{after_one, after_two, after_three, after_four, block_joined}
use Rattle.messages.proofs.write1230.put_block.Goals as goal

pub with-b-requires : goal.with-b-requires
with-b-requires c =
    let f = c.requires.1 in
    let a = after_one c.args.signals.now c.args.biases.now f c.with-a.ensures in
    (f, a.0, a.1)

pub with-c-requires : goal.with-c-requires
with-c-requires c =
    let f = c.requires.1 in
    let a = after_two c.args.signals.now c.args.biases.now f c.with-a.ensures c.with-b.ensures in
    (f, a.0, a.1)

pub with-all-requires : goal.with-all-requires
with-all-requires c =
    let f = c.requires.1 in
    let a = after_three c.args.signals.now c.args.biases.now f c.with-a.ensures c.with-b.ensures c.with-c.ensures in
    (f, a.0, a.1)

pub put-requires : goal.put-requires
put-requires c =
    let f = c.requires.1 in
    let a = after_four c.args.signals.now c.args.biases.now f c.with-a.ensures c.with-b.ensures c.with-c.ensures c.with-all.ensures in
    (c.requires.0.few, omega (arith, c.requires.0.within, bits_is c.args.signals.now c.args.biases.now f.even f.known), f.most, a.0, a.1)

pub returns : goal.returns
returns c =
    let f = c.requires.1 in
    c.put.ensures
    ∙ block_joined c.args.signals.now c.args.biases.now f c.with-a.ensures c.with-b.ensures c.with-c.ensures c.with-all.ensures c.args.bytes.now c.args.start
    (omega (arith, c.requires.0.within, bits_is c.args.signals.now c.args.biases.now f.even f.known))
    (record { byte = λ k. search rules })
