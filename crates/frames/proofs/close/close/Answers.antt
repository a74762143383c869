-- Each refusal is a case of the call; past them, the moves by what the search finds are the closing call. Assumes nothing.
use mathlib.Core.Path.{◌∙◌}
use mathlib.Core.List.{[]}
use native.Mathlib.Omega.{arith}
use Rattle.bits.proofs.RefusalLaws.{passed_on_with}
use Rattle.frames.specs.Answers.{known, known_closed}
use Rattle.frames.proofs.CallLaws.{Fits, in_order, out_of_order, small_output}
use Rattle.frames.proofs.EndLaws.{refuses, end_can_hold, end_closes}
use Rattle.frames.proofs.close.close.Goals as goal

pub returns-in_err-in_order : goal.returns-in_err-in_order
returns-in_err-in_order c = passed_on_with known_closed _ _ _ c.from_residual.ensures.1 ∙ refuses _ _ _ _ (out_of_order _ _ c.in_order.ensures _ _ _ c.in_err-in_order.was)

pub returns-then-out-lt1029 : goal.returns-then-out-lt1029
returns-then-out-lt1029 c =
    let f = in_order _ _ c.in_order.ensures c.in_ok-in_order.was in
    refuses _ _ _ _ (small_output _ _ _ _ _ f.area f.count f.held f.taken f.mode (omega arith) (omega arith) (omega arith))

pub carry_out-requires : goal.carry_out-requires
carry_out-requires c =
    let a = c.args in
    let g = in_order _ _ c.in_order.ensures c.in_ok-in_order.was in
    let f : Fits a.held.now (known a.scanner) [] a.out.now = record { area = g.area; count = g.count; held = g.held; taken = g.taken; mode = g.mode; piece = omega arith; limit = omega arith; output = omega arith } in
    (omega arith, omega arith, omega arith, omega arith, omega arith, end_can_hold a.scanner.mode a.held.now (known a.scanner) a.out.now f _ (rw c.of-mode.ensures at c.find_at_end-searched.ensures))

pub returns : goal.returns
returns c =
    let a = c.args in
    let g = in_order _ _ c.in_order.ensures c.in_ok-in_order.was in
    let f : Fits a.held.now (known a.scanner) [] a.out.now = record { area = g.area; count = g.count; held = g.held; taken = g.taken; mode = g.mode; piece = omega arith; limit = omega arith; output = omega arith } in
    end_closes a.scanner.mode a.held.now (known a.scanner) a.out.now f _ (rw c.of-mode.ensures at c.find_at_end-searched.ensures) c.carry_out.ensures c.ended.ensures
