-- `messages::pen::Pen::two` meets its contract. The two fields are one, which has the first number above the second. Assumes nothing.
use borrow.Author.Rules.{rules}
use native.Mathlib.Omega.{arith}
use Rattle.messages.proofs.PenLaws.{two_fit, two_room, two_put, length_drawn, bytes_drawn}
use Rattle.messages.proofs.pen.Pen.two.Goals as goal

pub overflow_add-x : goal.overflow_add-x
overflow_add-x c =
    omega (arith, (two_fit c.args.upper c.args.x c.args.lower c.args.y c.requires.1 c.requires.2 c.requires.3).2)

pub draw-requires : goal.draw-requires
draw-requires c = (
  two_room _ _ c.args.upper c.args.x c.args.lower c.args.y c.requires.0 _,
  c.requires.1,
  (two_fit c.args.upper c.args.x c.args.lower c.args.y c.requires.1 c.requires.2 c.requires.3).1,
)

pub returns : goal.returns
returns c =
    let f = c.requires.0 in
    let n = length_drawn c.args.bytes.now c.args.self.at c.args.self.bits in
    let b = bytes_drawn c.args.bytes.now c.args.self.at c.args.self.bits (omega (arith, f.within, n)) (record { byte = λ k. search rules }) in
    two_put _ _ c.args.upper c.args.x c.args.lower c.args.y f b c.requires.3
    (two_fit c.args.upper c.args.x c.args.lower c.args.y c.requires.1 c.requires.2 c.requires.3).0
    c.draw.ensures
