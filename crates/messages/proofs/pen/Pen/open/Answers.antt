-- `messages::pen::Pen::open` meets its contract. The bits that the pen holds are those that stand there. Assumes nothing.
use mathlib.Core.Path.{refl, sym, ap, ◌∙◌}
use Rattle.bits.specs.Fields.{Bytes}
use Rattle.bits.specs.Answers.{told_unsigned}
use Rattle.messages.proofs.PenLaws.{opened_read, opened_else}
use Rattle.messages.proofs.pen.Pen.open.Goals as goal

pub returns-in_default : goal.returns-in_default
returns-in_default c =
    let u = c.read_unsigned-read in
    let b : Bytes c.args.bytes.now = record { byte = λ k. (c.type_inv.bytes k).fits } in
    (refl, opened_else c.args.bytes.now c.args.start c.requires.1 b c.requires.0 u.result u.ensures c.in_default.not-Ok)

pub returns : goal.returns
returns c =
    let b : Bytes c.args.bytes.now = record { byte = λ k. (c.type_inv.bytes k).fits } in
    (refl, opened_read c.args.bytes.now c.args.start c.requires.1 b c.requires.0 (sym c.read_unsigned-read.ensures ∙ ap told_unsigned c.in-Ok.is))
