-- A byte other than D3 tells itself, a D3 that is skipped by its check. Assumes nothing.
use Rattle.frames.proofs.FateLaws.{checked_all, tells_not_d3, tells_sums, no_frame, no_other}
use Rattle.frames.proofs.fate.skipped.Goals as goal

pub returns-then-recording-place : goal.returns-then-recording-place
returns-then-recording-place c = λ w e.
    let a = c.args in
    tells_not_d3 a.recording.now a.place w e c.if-recording-place.true

pub returns-in_default : goal.returns-in_default
returns-in_default c = λ w e.
    let a = c.args in
    absurd (no_frame a.recording.now a.place w e c.if-recording-place.false c.check.result (checked_all a.recording.now a.place c.check.ensures) c.in_default.not-Err)

pub returns-in_default-refusal : goal.returns-in_default-refusal
returns-in_default-refusal c = λ w e.
    let a = c.args in
    absurd (no_other a.recording.now a.place w e c.if-recording-place.false c.check.result (checked_all a.recording.now a.place c.check.ensures) c.in-Err.is c.in_default-refusal.not-BadCheck)

pub returns : goal.returns
returns c = λ w e.
    let a = c.args in
    tells_sums a.recording.now a.place w e c.if-recording-place.false _ (checked_all a.recording.now a.place c.check.ensures) c.in-Err.is c.in-BadCheck.is
