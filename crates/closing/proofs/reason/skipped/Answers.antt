-- A D3 or not. Assumes nothing.
use Rattle.closing.proofs.ReasonLaws.{is_wrong, is_no_d3}
use Rattle.closing.proofs.reason.skipped.Goals as goal

pub returns-then-byte-eq211 : goal.returns-then-byte-eq211
returns-then-byte-eq211 c = is_wrong _ c.if-byte-eq211.true

pub returns : goal.returns
returns c = is_no_d3 _ c.if-byte-eq211.false
