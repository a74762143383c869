-- Each return is a case of the check's definition. Assumes nothing.
use native.Mathlib.Omega.{arith}
use Rattle.frames.proofs.FrameLaws.{too_few, no_start, length_at, cut_at, differ_at, agree_at}
use Rattle.frames.proofs.frame.check.Goals as goal

pub returns-then-bytes-lt6 : goal.returns-then-bytes-lt6
returns-then-bytes-lt6 c = too_few _ (omega arith)

pub returns-then-bytes : goal.returns-then-bytes
returns-then-bytes c = no_start _ (omega arith) c.if-bytes.true

pub returns-then-bytes-n : goal.returns-then-bytes-n
returns-then-bytes-n c =
    let s = c.args.bytes.now in
    cut_at s _ (omega arith) c.if-bytes.false (length_at s _ c.three_at.ensures.0) (omega arith)

pub returns-then-computed-sent : goal.returns-then-computed-sent
returns-then-computed-sent c =
    let s = c.args.bytes.now in
    differ_at s _ (omega arith) c.if-bytes.false (length_at s _ c.three_at.ensures.0)
    _ _ (omega arith) c.crc24q-computed.ensures c.three_at-sent.ensures.0 c.if-computed-sent.true

pub returns : goal.returns
returns c =
    let s = c.args.bytes.now in
    agree_at s _ (omega arith) c.if-bytes.false (length_at s _ c.three_at.ensures.0)
    _ _ (omega arith) c.crc24q-computed.ensures c.three_at-sent.ensures.0 c.if-computed-sent.false _ c.number_of.ensures
