-- What was held is skipped, in the frame or held then; with nothing more to hand out all of it is skipped.
use Rattle.std.proofs.Common.{refl, arith}
use Rattle.reading.proofs.StepLaws.{closed_frame, closed_done}
use Rattle.reading.proofs.recording.Recording.close.Goals as goal

pub returns-in-Frame : goal.returns-in-Frame
returns-in-Frame c =
    let k = closed_frame c.args.self.now.held c.args.self.now.frame c.scanner.ensures c.in-Frame.kind c.in-Frame.is c.in-Ok.ensures in
    record { closed = c.framed.ensures c.args.self.now.right (omega arith) (omega (arith, k.0)) k.1; whole = refl }

pub invariant_of-self-in-Frame : goal.invariant_of-self-in-Frame
invariant_of-self-in-Frame c =
    let k = closed_frame c.args.self.now.held c.args.self.now.frame c.scanner.ensures c.in-Frame.kind c.in-Frame.is c.in-Ok.ensures in
    let f = c.framed.ensures c.args.self.now.right (omega arith) (omega (arith, k.0)) k.1 in
    record { right = f.1 }

pub returns-in-Done : goal.returns-in-Done
returns-in-Done c =
    let k = closed_done c.args.self.now.held c.args.self.now.frame c.scanner.ensures c.in-Done.is c.in-Ok.ensures in
    record { closed = c.emptied-self.ensures c.args.self.now.right k; whole = refl }

pub invariant_of-self-in-Done : goal.invariant_of-self-in-Done
invariant_of-self-in-Done c =
    let f = c.emptied-self.ensures c.args.self.now.right (closed_done c.args.self.now.held c.args.self.now.frame c.scanner.ensures c.in-Done.is c.in-Ok.ensures) in
    record { right = f.0 }
