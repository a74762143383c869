-- Each refusal is a case of the call; past them, the moves by what the search finds are the call. Assumes nothing.
use mathlib.Core.Path.{sym, ◌∙◌}
use native.Mathlib.Omega.{arith}
use Rattle.bits.proofs.RefusalLaws.{passed_on_with}
use Rattle.frames.specs.Answers.{known, known_fed}
use Rattle.frames.proofs.CallLaws.{Fits, in_order, out_of_order, long_piece, past_limit, small_output}
use Rattle.frames.proofs.MovedLaws.{searched_can_hold, searched_moves}
use Rattle.frames.proofs.scanner.feed.Goals as goal

pub returns-in_err-in_order : goal.returns-in_err-in_order
returns-in_err-in_order c = passed_on_with known_fed _ _ _ c.from_residual.ensures.1 ∙ sym (out_of_order _ _ c.in_order.ensures _ _ _ c.in_err-in_order.was)

pub returns-then-piece-gt65536 : goal.returns-then-piece-gt65536
returns-then-piece-gt65536 c = let f = in_order _ _ c.in_order.ensures c.in_ok-in_order.was in sym (long_piece _ _ _ _ _ f.area f.count f.held f.taken f.mode (omega arith))

pub returns-then-scanner-piece-gt281474976710656 : goal.returns-then-scanner-piece-gt281474976710656
returns-then-scanner-piece-gt281474976710656 c = let f = in_order _ _ c.in_order.ensures c.in_ok-in_order.was in sym (past_limit _ _ _ _ _ f.area f.count f.held f.taken f.mode (omega arith) (omega arith))

pub returns-then-out-lt1029 : goal.returns-then-out-lt1029
returns-then-out-lt1029 c = let f = in_order _ _ c.in_order.ensures c.in_ok-in_order.was in sym (small_output _ _ _ _ _ f.area f.count f.held f.taken f.mode (omega arith) (omega arith) (omega arith))

pub carry_out-requires : goal.carry_out-requires
carry_out-requires c =
    let a = c.args in
    let g = in_order _ _ c.in_order.ensures c.in_ok-in_order.was in
    let f : Fits a.held.now (known a.scanner) a.piece.now a.out.now = record { area = g.area; count = g.count; held = g.held; taken = g.taken; mode = g.mode; piece = omega arith; limit = omega arith; output = omega arith } in
    (omega arith, omega arith, omega arith, omega arith, omega arith, searched_can_hold a.scanner.mode a.held.now (known a.scanner) a.piece.now a.out.now f _ (rw c.of-mode.ensures at c.find_frame-searched.ensures))

pub returns : goal.returns
returns c =
    let a = c.args in
    let g = in_order _ _ c.in_order.ensures c.in_ok-in_order.was in
    let f : Fits a.held.now (known a.scanner) a.piece.now a.out.now = record { area = g.area; count = g.count; held = g.held; taken = g.taken; mode = g.mode; piece = omega arith; limit = omega arith; output = omega arith } in
    c.carry_out.ensures ∙ searched_moves a.scanner.mode a.held.now (known a.scanner) a.piece.now a.out.now f _ (rw c.of-mode.ensures at c.find_frame-searched.ensures)
