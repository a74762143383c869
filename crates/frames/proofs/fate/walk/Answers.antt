-- From frame to frame the fate of the byte stays, until it is reached or passed. Assumes nothing.
use mathlib.Core.Path.{refl, sym, ap, ◌∙◌}
use native.Mathlib.Omega.{arith}
use Rattle.frames.specs.Rtcm.{rtcm}
use Rattle.frames.specs.Answers.{told_next}
use Rattle.frames.proofs.RtcmLaws.{rtcm_lawful}
use Rattle.frames.proofs.WalkLaws.{stops, finds}
use Rattle.frames.proofs.FateLaws.{held_there, skipped_held, frame_there, behind_frame, skipped_before}
use Rattle.frames.proofs.fate.walk.Goals as goal

pub loop-start-init : goal.loop-start-init
loop-start-init c = (omega arith, refl)

pub returns-then-place-start : goal.returns-then-place-start
returns-then-place-start c =
    let a = c.args in
    let w = c.loop-start in
    let x = stops rtcm a.recording.now rtcm_lawful w.from (omega (arith, w.invariant.0, c.requires)) c.in-Held.start (sym c.next_frame.ensures ∙ ap told_next c.in-Held.is) in
    let k = skipped_held a.recording.now a.place w.from c.in-Held.start x w.invariant.0 (omega (arith, c.if-place-start.true)) in
    c.skipped.ensures k.0 k.1 ∙ sym k.2 ∙ w.invariant.1

pub overflow_sub-result : goal.overflow_sub-result
overflow_sub-result c =
    let a = c.args in
    let w = c.loop-start in
    let x = stops rtcm a.recording.now rtcm_lawful w.from (omega (arith, w.invariant.0, c.requires)) c.in-Held.start (sym c.next_frame.ensures ∙ ap told_next c.in-Held.is) in
    omega (arith, x.fits)

pub returns-in-Held : goal.returns-in-Held
returns-in-Held c =
    let a = c.args in
    let w = c.loop-start in
    let x = stops rtcm a.recording.now rtcm_lawful w.from (omega (arith, w.invariant.0, c.requires)) c.in-Held.start (sym c.next_frame.ensures ∙ ap told_next c.in-Held.is) in
    held_there a.recording.now a.place w.from c.in-Held.start x (omega (arith, c.if-place-start.false)) ∙ w.invariant.1

pub returns-then-place-start-2 : goal.returns-then-place-start-2
returns-then-place-start-2 c =
    let a = c.args in
    let w = c.loop-start in
    let x = finds rtcm a.recording.now rtcm_lawful w.from (omega (arith, w.invariant.0, c.requires)) c.in-Frame.start c.in-Frame.length (sym c.next_frame.ensures ∙ ap told_next c.in-Frame.is) in
    let k = skipped_before a.recording.now a.place w.from c.in-Frame.start c.in-Frame.length x w.invariant.0 (omega (arith, c.if-place-start-2.true)) in
    c.skipped-then-place-start-2.ensures k.0 k.1 ∙ sym k.2 ∙ w.invariant.1

pub overflow_add-start : goal.overflow_add-start
overflow_add-start c =
    let a = c.args in
    let w = c.loop-start in
    let x = finds rtcm a.recording.now rtcm_lawful w.from (omega (arith, w.invariant.0, c.requires)) c.in-Frame.start c.in-Frame.length (sym c.next_frame.ensures ∙ ap told_next c.in-Frame.is) in
    record { fits = omega (arith, x.fits) }

pub returns-then-place-start-3 : goal.returns-then-place-start-3
returns-then-place-start-3 c =
    let a = c.args in
    let w = c.loop-start in
    let x = finds rtcm a.recording.now rtcm_lawful w.from (omega (arith, w.invariant.0, c.requires)) c.in-Frame.start c.in-Frame.length (sym c.next_frame.ensures ∙ ap told_next c.in-Frame.is) in
    frame_there a.recording.now a.place w.from c.in-Frame.start c.in-Frame.length x (omega (arith, c.if-place-start-2.false)) (omega (arith, c.if-place-start-3.true)) ∙ w.invariant.1

pub overflow_add-from : goal.overflow_add-from
overflow_add-from c =
    let a = c.args in
    let w = c.loop-start in
    let x = finds rtcm a.recording.now rtcm_lawful w.from (omega (arith, w.invariant.0, c.requires)) c.in-Frame.start c.in-Frame.length (sym c.next_frame.ensures ∙ ap told_next c.in-Frame.is) in
    record { fits = omega (arith, x.fits) }

pub loop-start-smaller : goal.loop-start-smaller
loop-start-smaller c =
    let a = c.args in
    let w = c.loop-start in
    let x = finds rtcm a.recording.now rtcm_lawful w.from (omega (arith, w.invariant.0, c.requires)) c.in-Frame.start c.in-Frame.length (sym c.next_frame.ensures ∙ ap told_next c.in-Frame.is) in
    omega (arith, x.count, x.some, x.fits)

pub loop-start-preserved : goal.loop-start-preserved
loop-start-preserved c =
    let a = c.args in
    let w = c.loop-start in
    let x = finds rtcm a.recording.now rtcm_lawful w.from (omega (arith, w.invariant.0, c.requires)) c.in-Frame.start c.in-Frame.length (sym c.next_frame.ensures ∙ ap told_next c.in-Frame.is) in
    (omega (arith, c.if-place-start-3.false), behind_frame a.recording.now a.place w.from c.in-Frame.start c.in-Frame.length x (omega (arith, c.if-place-start-3.false)) ∙ w.invariant.1)
