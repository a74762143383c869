-- The bytes of the window are copied, and the sums of the copy are theirs. Assumes nothing.
use mathlib.Core.Path.{refl, ◌∙◌}
use mathlib.Core.List.{◌++◌}
use native.Mathlib.Omega.{arith}
use lib.ListN.{length-append}
use Rattle.frames.proofs.RunLaws.{opened_runs}
use Rattle.frames.proofs.many.open_runs.Goals as goal

pub returns : goal.returns
returns c =
    let a = c.args in
    let n = c.min-n in
    let s = a.held.now ++ a.piece.now in
    let fits = length-append a.held.now a.piece.now in
    let r = c.runs.ensures in (
      refl,
      omega (arith, n.ensures),
      opened_runs s _ _ _ a.i n.result (omega (arith, n.ensures, fits)) (omega (arith, n.ensures, r.1, c.requires.2)) c.gather.ensures r.0,
      r.1 ∙ c.requires.2,
    )
