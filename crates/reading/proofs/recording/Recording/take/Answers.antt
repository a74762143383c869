-- What was held and taken is skipped, in the frame or held then, and the rest of the piece is left.
use Rattle.std.proofs.Common.{refl, arith}
use Rattle.reading.proofs.StepLaws.{fed_frame, fed_more}
use Rattle.reading.proofs.AccountLaws.{taken_right}
use Rattle.reading.proofs.recording.Recording.take.Goals as goal

pub returns-in-Frame : goal.returns-in-Frame
returns-in-Frame c =
    let k = fed_frame c.args.self.now.held c.args.self.now.frame c.scanner.ensures c.part-rest.result.now c.in-Frame.kind c.in-Frame.is c.in-Ok.ensures in
    record { taken = c.framed.ensures c.args.self.now.right (omega (arith, k.0, c.part-rest.ensures)) k.1 k.2; whole = refl }

pub invariant_of-self-in-Frame : goal.invariant_of-self-in-Frame
invariant_of-self-in-Frame c =
    let k = fed_frame c.args.self.now.held c.args.self.now.frame c.scanner.ensures c.part-rest.result.now c.in-Frame.kind c.in-Frame.is c.in-Ok.ensures in
    let f = c.framed.ensures c.args.self.now.right (omega (arith, k.0, c.part-rest.ensures)) k.1 k.2 in
    record { right = f.1 }

pub returns-in-More : goal.returns-in-More
returns-in-More c =
    let k = fed_more c.args.self.now.held c.args.self.now.frame c.scanner.ensures c.part-rest.result.now c.in-More.is c.in-Ok.ensures in
    record { taken = c.passed-self.ensures c.args.self.now.right (omega (arith, k.0, c.part-rest.ensures)) k.1; whole = refl }

pub invariant_of-self-in-More : goal.invariant_of-self-in-More
invariant_of-self-in-More c =
    let k = fed_more c.args.self.now.held c.args.self.now.frame c.scanner.ensures c.part-rest.result.now c.in-More.is c.in-Ok.ensures in
    let f = c.passed-self.ensures c.args.self.now.right (omega (arith, k.0, c.part-rest.ensures)) k.1 in
    record { right = taken_right _ f }
