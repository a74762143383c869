-- Each check of a block in its order. Assumes nothing.
use Rattle.std.proofs.Common.{sym, ap, arith, ◌∙◌}
use Rattle.settings.specs.Read.{can_read}
use Rattle.settings.proofs.ReadLaws.{kind_told, bad_length, bad_sum, bad_edition, bad_index, bad_count, by_entries}
use Rattle.settings.proofs.read.judge.Goals as goal

pub returns-then-block-ne512-clause-tells : goal.returns-then-block-ne512-clause-tells
returns-then-block-ne512-clause-tells c = bad_length _ _ _ c.if-block-ne512.true

pub returns-then-sent-computed-clause-tells : goal.returns-then-sent-computed-clause-tells
returns-then-sent-computed-clause-tells c =
    let a = c.args in
    bad_sum a.block.now a.reader a.index c.if-block-ne512.false _ _ c.three_at-sent.ensures.0 c.crc24q-computed.ensures c.if-sent-computed.true

pub returns-in_err-edition-clause-tells : goal.returns-in_err-edition-clause-tells
returns-in_err-edition-clause-tells c =
    let a = c.args in
    kind_told _ _ c.from_residual.ensures.1 c.in_err-edition.ensures.0
    ∙ bad_edition a.block.now a.reader a.index c.if-block-ne512.false _ _ c.three_at-sent.ensures.0 c.crc24q-computed.ensures c.if-sent-computed.false
    (ap (can_read a.reader) (sym c.from.ensures) ∙ c.in_err-edition.ensures.1)

pub returns-then-from-index-clause-tells : goal.returns-then-from-index-clause-tells
returns-then-from-index-clause-tells c =
    let a = c.args in
    bad_index a.block.now a.reader a.index c.if-block-ne512.false _ _ c.three_at-sent.ensures.0 c.crc24q-computed.ensures c.if-sent-computed.false
    (ap (can_read a.reader) (sym c.from.ensures) ∙ c.in_ok-edition.ensures.1)
    (λ z. c.if-from-index.true (c.from-2.ensures ∙ c.from_be_bytes.ensures ∙ z))

pub returns-then-count-gt64-clause-tells : goal.returns-then-count-gt64-clause-tells
returns-then-count-gt64-clause-tells c =
    let a = c.args in
    bad_count a.block.now a.reader a.index c.if-block-ne512.false _ _ c.three_at-sent.ensures.0 c.crc24q-computed.ensures c.if-sent-computed.false
    (ap (can_read a.reader) (sym c.from.ensures) ∙ c.in_ok-edition.ensures.1)
    (sym (c.from-2.ensures ∙ c.from_be_bytes.ensures) ∙ c.if-from-index.false)
    (omega (arith, c.from-count.ensures, c.if-count-gt64.true))

pub returns-clause-tells : goal.returns-clause-tells
returns-clause-tells c =
    let a = c.args in
    c.judge_entries.ensures.tells
    ∙ by_entries a.block.now a.reader a.index c.if-block-ne512.false _ _ c.three_at-sent.ensures.0 c.crc24q-computed.ensures c.if-sent-computed.false
    (ap (can_read a.reader) (sym c.from.ensures) ∙ c.in_ok-edition.ensures.1)
    (sym (c.from-2.ensures ∙ c.from_be_bytes.ensures) ∙ c.if-from-index.false)
    (omega (arith, c.from-count.ensures, c.if-count-gt64.false))
