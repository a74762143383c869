-- The first pass decides the answer, and the second stores what it found. Assumes nothing.
use mathlib.Core.Path.{sym, ◌∙◌}
use Rattle.bits.proofs.RefusalLaws.{passed_on_with}
use Rattle.observations.specs.Read1001.{seen}
use Rattle.observations.proofs.ListLaws.{alike}
use Rattle.observations.proofs.ReadLaws.{too_long, uneven, refused, call_room, call_reads}
use Rattle.observations.proofs.read.read.Goals as goal

pub returns-then-bytes-gt1023 : goal.returns-then-bytes-gt1023
returns-then-bytes-gt1023 c = too_long _ _ c.if-bytes-gt1023.true

pub returns-then-not-even : goal.returns-then-not-even
returns-then-not-even c = uneven _ _ c.if-bytes-gt1023.false (sym c.even.ensures ∙ c.if-not-even.true)

pub returns-in_err-header : goal.returns-in_err-header
returns-in_err-header c =
    passed_on_with (λ m. seen m.header m.count m.end) _ _ _ c.from_residual.ensures.1
    ∙ refused _ _ c.if-bytes-gt1023.false (sym c.even.ensures ∙ c.if-not-even.false) c.in_err-header.ensures.0

pub returns-then-satellites-count : goal.returns-then-satellites-count
returns-then-satellites-count c =
    let w = c.in_ok-header.ensures in
    call_room _ _ c.if-bytes-gt1023.false (sym c.even.ensures ∙ c.if-not-even.false) _ _ w.1.1 w.0 c.if-satellites-count.true

pub store-requires : goal.store-requires
store-requires c =
    let w = c.in_ok-header.ensures.1 in
    record { few = c.if-bytes-gt1023.false; there = w.1; room = c.if-satellites-count.false; alike = alike _ (sym c.even.ensures ∙ c.if-not-even.false) }

pub returns : goal.returns
returns c =
    let w = c.in_ok-header.ensures in
    call_reads _ _ c.if-bytes-gt1023.false (sym c.even.ensures ∙ c.if-not-even.false) _ _ w.1.1 w.0 c.if-satellites-count.false _ c.store.ensures
