-- A byte other than D3 is ruled by itself, a D3 by the frame check of the bytes from it on. Assumes nothing.
use Rattle.closing.proofs.ReasonLaws.{past_end, is_not_d3, by_check, by_missing}
use Rattle.closing.proofs.reason.at.Goals as goal

pub returns-then-all-place : goal.returns-then-all-place
returns-then-all-place c = let a = c.args in past_end a.bytes.now a.place c.if-all-place.true

pub returns-then-bytes-place : goal.returns-then-bytes-place
returns-then-bytes-place c =
    let a = c.args in
    is_not_d3 a.bytes.now a.place c.if-all-place.false c.if-bytes-place.true

pub returns-in-Ok : goal.returns-in-Ok
returns-in-Ok c =
    let a = c.args in
    by_check a.bytes.now a.place c.if-all-place.false c.if-bytes-place.false c.in-Ok.ensures

pub returns-in-BadCheck : goal.returns-in-BadCheck
returns-in-BadCheck c =
    let a = c.args in
    let e = by_check a.bytes.now a.place c.if-all-place.false c.if-bytes-place.false c.in-Err.ensures in
    rw c.in-BadCheck.is at e

pub returns-in_default : goal.returns-in_default
returns-in_default c =
    let a = c.args in
    by_missing a.bytes.now a.place c.if-all-place.false c.check.ensures c.if-bytes-place.false c.in-Err.is c.in_default.not-BadCheck
