-- For RTCM the candidate at the front may wait. Assumes nothing.
use Rattle.frames.specs.Modes.{framing_of}
use Rattle.frames.specs.Steps.{starts_in}
use Rattle.frames.proofs.ModeLaws.{lawful}
use Rattle.frames.proofs.StartLaws.{mode_starts}
use Rattle.frames.proofs.FindLaws.{front_waits}
use Rattle.frames.proofs.scan.find_frame.Goals as goal

pub returns-then-still_waits : goal.returns-then-still_waits
returns-then-still_waits c =
    let a = c.args in
    rw c.in-Rtcm.is (front_waits (framing_of 0) (lawful 0) (starts_in 0) (mode_starts 0) a.held.now a.piece.now (c.still_waits.ensures c.if-still_waits.true))
