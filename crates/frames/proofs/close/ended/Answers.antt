-- Each arm tells what its answer tells; More is told as Done. Assumes nothing.
use mathlib.Core.Path.{sym, ap}
use Rattle.bits.specs.Told.{Accepted}
use Rattle.frames.specs.Close.{closed_by}
use Rattle.frames.specs.Answers.{known_fed}
use Rattle.frames.proofs.close.ended.Goals as goal

pub returns-in-More : goal.returns-in-More
returns-in-More c = rw c.in-More.is cc

pub returns-in-Frame : goal.returns-in-Frame
returns-in-Frame c = ap (λ r. closed_by (Accepted (known_fed r))) (sym c.in-Frame.is)
