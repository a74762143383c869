-- Up to byte `at`, all are zeros. Assumes nothing.
use Rattle.std.proofs.Common.{◌≡◌, ◌+◌, ◌-◌, refl, ap, sym, arith, ◌∙◌}
use Rattle.settings.specs.Read.{zeros}
use Rattle.settings.proofs.ReadLaws.{filled_at}
use Rattle.settings.proofs.SearchLaws.{not_zero, zero_here, zeros_end}
use Rattle.settings.proofs.entries.Entries.is_filled.Goals as goal

pub loop-at-init : goal.loop-at-init
loop-at-init c = refl

pub returns-then-self-at-ne0 : goal.returns-then-self-at-ne0
returns-then-self-at-ne0 c =
    let self = c.args.self.now in
    let s = self.block.now in
    not_zero s c.loop-at.at (509 - c.loop-at.at) (omega arith) c.if-self-at-ne0.true ∙ c.loop-at.invariant
    ∙ filled_at s _ _ _ c.entry_place-end.ensures.0 self.of_edition self.counted

pub loop-at-preserved : goal.loop-at-preserved
loop-at-preserved c =
    let s = c.args.self.now.block.now in
    let l = c.loop-at in
    let q : 509 - (l.at + 1) ≡ 509 - l.at - 1 = omega arith in
    ap (zeros s (l.at + 1)) q ∙ sym (zero_here s l.at (509 - l.at) (omega arith) c.if-self-at-ne0.false) ∙ l.invariant

pub returns : goal.returns
returns c =
    let self = c.args.self.now in
    let s = self.block.now in
    zeros_end s c.loop-at.at (509 - c.loop-at.at) (omega arith) ∙ c.loop-at.invariant
    ∙ filled_at s _ _ _ c.entry_place-end.ensures.0 self.of_edition self.counted
