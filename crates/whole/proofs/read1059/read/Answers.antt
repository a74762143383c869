-- The front decides, and the block is read behind it. Assumes nothing.
use mathlib.Core.Path.{refl, ◌∙◌}
use Rattle.bits.proofs.RefusalLaws.{passed_on_with}
use Rattle.whole.specs.Whole.{whole}
use Rattle.whole.proofs.Read1059Laws.{too_long, uneven, uneven_too, refused, reads}
use Rattle.whole.proofs.read1059.read.Goals as goal

pub returns-then-bytes-gt1023 : goal.returns-then-bytes-gt1023
returns-then-bytes-gt1023 c = too_long _ _ _ _ c.if-bytes-gt1023.true

pub returns-then-satellites-signals : goal.returns-then-satellites-signals
returns-then-satellites-signals c = uneven _ _ _ _ c.if-bytes-gt1023.false c.if-satellites-signals.true

pub returns-then-satellites-biases : goal.returns-then-satellites-biases
returns-then-satellites-biases c = uneven_too _ _ _ _ c.if-bytes-gt1023.false c.if-satellites-signals.false c.if-satellites-biases.true

pub returns-in_err-header : goal.returns-in_err-header
returns-in_err-header c =
    passed_on_with (λ m. whole m.header m.count m.end) _ _ _ c.from_residual.ensures.1
    ∙ refused _ _ _ _ c.if-bytes-gt1023.false c.if-satellites-signals.false c.if-satellites-biases.false c.in_err-header.ensures

pub returns-in_err-block : goal.returns-in_err-block
returns-in_err-block c =
    passed_on_with (λ m. whole m.header m.count m.end) _ _ _ c.from_residual-in_err-block.ensures.1
    ∙ reads _ _ _ _ c.if-bytes-gt1023.false c.if-satellites-signals.false c.if-satellites-biases.false c.in_ok-header.ensures c.in_err-block.ensures refl

pub returns : goal.returns
returns c = reads _ _ _ _ c.if-bytes-gt1023.false c.if-satellites-signals.false c.if-satellites-biases.false c.in_ok-header.ensures c.in_ok-block.ensures refl
