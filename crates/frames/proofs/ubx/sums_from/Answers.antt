-- The sums so far, continued over what is left, are those of the whole. Assumes nothing.
use mathlib.Core.Path.{sym, ◌∙◌}
use native.Mathlib.Omega.{arith}
use Rattle.frames.proofs.SumsLaws.{sums_more, sums_end}
use Rattle.frames.proofs.ubx.sums_from.Goals as goal

pub loop-byte-preserved : goal.loop-byte-preserved
loop-byte-preserved c =
    let l = c.loop-byte in
    let s = c.args.bytes.now in
    (sums_more s l.byte-index (l.first, l.second) (omega arith) ∙ l.invariant.0, omega arith, omega arith)

pub returns : goal.returns
returns c =
    let l = c.loop-byte in
    (sym (sums_end c.args.bytes.now l.byte-index (l.first, l.second) (omega arith)) ∙ l.invariant.0, l.invariant.1, l.invariant.2)
