-- What is listed, and what is filled in for it, are the first frames of the scan. Assumes nothing.
use native.Mathlib.Omega.{arith}
use Rattle.batch.specs.Steps.{Lists, lists}
use Rattle.batch.proofs.FillLaws.{listed_is, counted, fills, walks}
use Rattle.batch.proofs.walk.walk.Goals as goal

pub slice_bounds-fill-end : goal.slice_bounds-fill-end
slice_bounds-fill-end c =
    let a = c.args in
    let l : Lists = lists a.seam.now a.starts.now a.lengths.now a.kinds.now in
    omega (arith, (counted a.mode a.held.now a.piece.now l c.requires _ _ _ (listed_is a.mode a.held.now a.piece.now l c.requires c.frames_across-found.ensures)).0)

pub slice_bounds-fill-end-2 : goal.slice_bounds-fill-end-2
slice_bounds-fill-end-2 c =
    let a = c.args in
    let l : Lists = lists a.seam.now a.starts.now a.lengths.now a.kinds.now in
    omega (arith, (counted a.mode a.held.now a.piece.now l c.requires _ _ _ (listed_is a.mode a.held.now a.piece.now l c.requires c.frames_across-found.ensures)).1)

pub fill-requires : goal.fill-requires
fill-requires c =
    let a = c.args in
    let l : Lists = lists a.seam.now a.starts.now a.lengths.now a.kinds.now in
    fills a.mode a.held.now a.piece.now l c.requires _ _ _ (listed_is a.mode a.held.now a.piece.now l c.requires c.frames_across-found.ensures)

pub returns : goal.returns
returns c =
    let a = c.args in
    let l : Lists = lists a.seam.now a.starts.now a.lengths.now a.kinds.now in
    walks a.mode a.held.now a.piece.now l c.requires _ _ _ (listed_is a.mode a.held.now a.piece.now l c.requires c.frames_across-found.ensures) _ _ c.fill.ensures.0 c.fill.ensures.1
