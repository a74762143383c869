-- `messages::pen::Pen::lift` meets its contract. What is held is a field behind the last four bytes that are stored. Assumes nothing.
use borrow.Author.Rules.{rules}
use mathlib.Core.Path.{sym, ◌∙◌}
use Prim.Native.Nat.{◌%◌}
use native.Mathlib.Omega.{arith}
use Rattle.bits.specs.Fields.{Bytes}
use lib.Pow.{pow_pos}
use Rattle.bits.proofs.FieldsLaws.{put_one}
use Rattle.messages.proofs.PenLaws.{opened_none, one_bit, rest_fits, lifted}
use Rattle.messages.proofs.pen.Pen.lift.Goals as goal

pub returns-then-count-eq0 : goal.returns-then-count-eq0
returns-then-count-eq0 c =
    let b : Bytes c.args.bytes.now = record { byte = λ k. (c.type_inv.bytes k).fits } in
    sym (opened_none c.args.bytes.now c.args.self.at c.requires.1 b c.args.self.bits c.if-count-eq0.true)

pub nonzero_rem-self : goal.nonzero_rem-self
nonzero_rem-self c =
    omega (arith, one_bit (c.args.self.at % 32) (omega arith), pow_pos (c.args.self.at % 32))

pub unsigned-end-requires : goal.unsigned-end-requires
unsigned-end-requires c =
    rest_fits c.args.bytes.now c.args.self.at c.args.self.bits c.requires.1 c.requires.0 (omega (arith, c.if-count-eq0.false))

pub returns : goal.returns
returns c =
    let b : Bytes c.args.bytes.now = record { byte = λ k. search rules } in
    lifted c.args.bytes.now c.args.self.at c.args.self.bits c.requires.1 b (c.unsigned-end.ensures.left ∙ put_one _ _ _ _)
