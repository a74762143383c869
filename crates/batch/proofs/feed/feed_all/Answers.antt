-- Each refusal is a case of the call. Assumes nothing.
use mathlib.Core.Path.{◌∙◌}
use Rattle.bits.proofs.RefusalLaws.{passed_on_with}
use Rattle.frames.proofs.CallLaws.{in_order}
use Rattle.batch.specs.Answers.{known_listed}
use Rattle.batch.proofs.CallLaws.{wrong_seam, out_of_order}
use Rattle.batch.proofs.feed.feed_all.Goals as goal

pub returns-then-seam-ne2058 : goal.returns-then-seam-ne2058
returns-then-seam-ne2058 c = wrong_seam _ _ _ _ c.if-seam-ne2058.true

pub returns-in_err-in_order : goal.returns-in_err-in_order
returns-in_err-in_order c = passed_on_with known_listed _ _ _ c.from_residual.ensures.1 ∙ out_of_order _ _ _ _ c.if-seam-ne2058.false c.in_order.ensures c.in_err-in_order.was

pub list_frames-requires : goal.list_frames-requires
list_frames-requires c = let f = in_order _ _ c.in_order.ensures c.in_ok-in_order.was in (f.area, c.if-seam-ne2058.false, f.count, f.held, f.taken, f.mode)

pub returns : goal.returns
returns c = c.list_frames.ensures
