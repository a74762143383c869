-- Each refusal is a case of the call; past them, the walk and what it leads to are the call. Assumes nothing.
use Prim.Native.Nat.{◌+◌, ◌^◌, ◌≤◌, ◌<◌}
use native.Mathlib.Omega.{arith}
use lib.ListN.{length}
use Rattle.frames.specs.Modes.{framing_of}
use Rattle.frames.specs.Answers.{known}
use Rattle.batch.specs.Batch.{areas}
use Rattle.batch.specs.Steps.{lists}
use Rattle.batch.proofs.CallLaws.{FitsAll, long_piece, past_limit, uneven_lengths, uneven_kinds, no_place, all_called}
use Rattle.batch.proofs.StopLaws.{within_area}
use Rattle.batch.proofs.feed.list_frames.Goals as goal

pub returns-then-piece-gt65536 : goal.returns-then-piece-gt65536
returns-then-piece-gt65536 c = let p = c.requires in long_piece _ _ _ _ p.0 p.1 p.2 p.3 p.4 p.5 (omega arith)

pub returns-then-scanner-piece-gt281474976710656 : goal.returns-then-scanner-piece-gt281474976710656
returns-then-scanner-piece-gt281474976710656 c = let p = c.requires in past_limit _ _ _ _ p.0 p.1 p.2 p.3 p.4 p.5 (omega arith) (omega arith)

pub returns-then-lengths-starts : goal.returns-then-lengths-starts
returns-then-lengths-starts c = let p = c.requires in uneven_lengths _ _ _ _ p.0 p.1 p.2 p.3 p.4 p.5 (omega arith) (omega arith) c.if-lengths-starts.true

pub returns-then-kinds-starts : goal.returns-then-kinds-starts
returns-then-kinds-starts c = let p = c.requires in uneven_kinds _ _ _ _ p.0 p.1 p.2 p.3 p.4 p.5 (omega arith) (omega arith) (omega arith) c.if-kinds-starts.true

pub returns-then-starts-eq0 : goal.returns-then-starts-eq0
returns-then-starts-eq0 c = let p = c.requires in no_place _ _ _ _ p.0 p.1 p.2 p.3 p.4 p.5 (omega arith) (omega arith) (omega arith) (omega arith) (omega arith)

pub settle-requires : goal.settle-requires
settle-requires c =
    let a = c.args in
    let p = c.requires in
    let f : FitsAll (areas a.held.now a.seam.now a.starts.now a.lengths.now a.kinds.now) (known a.scanner) a.piece.now = record {
      area = p.0;
      seam = p.1;
      count = p.2;
      held = p.3;
      taken = p.4;
      mode = p.5;
      piece = omega arith;
      limit = omega arith;
      lengths = omega arith;
      kinds = omega arith;
      some = omega arith;
    } in
    let room : a.scanner.count ≤ length a.held.now = omega (arith, f.area, f.count) in
    let limit : a.scanner.taken + length a.piece.now < 2 ^ 64 = omega (arith, f.limit) in
    (room, f.held, limit, within_area _ a.held.now a.scanner.count (length a.piece.now) f.area room c.walk-found.ensures.within)

pub returns : goal.returns
returns c =
    let a = c.args in
    let p = c.requires in
    let f : FitsAll (areas a.held.now a.seam.now a.starts.now a.lengths.now a.kinds.now) (known a.scanner) a.piece.now = record {
      area = p.0;
      seam = p.1;
      count = p.2;
      held = p.3;
      taken = p.4;
      mode = p.5;
      piece = omega arith;
      limit = omega arith;
      lengths = omega arith;
      kinds = omega arith;
      some = omega arith;
    } in
    all_called (framing_of a.scanner.mode) (areas a.held.now a.seam.now a.starts.now a.lengths.now a.kinds.now) (known a.scanner) a.piece.now f _ (lists _ _ _ _) c.walk-found.ensures c.settle.ensures
