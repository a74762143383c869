-- What the search finds behind the place is the next frame. Assumes nothing.
use native.Mathlib.Omega.{arith}
use Rattle.frames.specs.Rtcm.{rtcm}
use Rattle.frames.proofs.ModeLaws.{lawful}
use Rattle.frames.proofs.WalkLaws.{past_end, held_on, held_reaches, frame_on, frame_reaches}
use Rattle.frames.proofs.scan.next_frame.Goals as goal

pub returns-then-all-from : goal.returns-then-all-from
returns-then-all-from c = let a = c.args in past_end rtcm a.bytes.now a.from (omega arith)

pub overflow_add-result : goal.overflow_add-result
overflow_add-result c = let a = c.args in record { fits = omega (arith, held_reaches rtcm (lawful 0) a.bytes.now a.from (omega arith) _ c.first_frame.ensures _ c.in-More.is) }

pub overflow_add-result-in-Frame : goal.overflow_add-result-in-Frame
overflow_add-result-in-Frame c = let a = c.args in record { fits = omega (arith, frame_reaches rtcm (lawful 0) a.bytes.now a.from (omega arith) _ c.first_frame.ensures _ _ _ c.in-Frame.is) }

pub returns-in-More : goal.returns-in-More
returns-in-More c = let a = c.args in held_on rtcm (lawful 0) a.bytes.now a.from (omega arith) _ c.first_frame.ensures _ c.in-More.is

pub returns-in-Frame : goal.returns-in-Frame
returns-in-Frame c = let a = c.args in frame_on rtcm (lawful 0) a.bytes.now a.from (omega arith) _ c.first_frame.ensures _ _ _ c.in-Frame.is
