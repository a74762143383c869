-- The bytes of the window are copied, and the tails of the copy are theirs. Assumes nothing.
use mathlib.Core.Path.{refl, ap, ◌∙◌}
use mathlib.Core.List.{List, ◌++◌}
use Prim.Native.Nat.{ℕ, ◌+◌, ◌-◌}
use native.Mathlib.Omega.{arith}
use lib.ListN.{take, length-append}
use Rattle.window.specs.Tails.{stored}
use Rattle.frames.proofs.ManyLaws.{opened, area_length}
use Rattle.frames.proofs.many.open.Goals as goal

pub returns : goal.returns
returns c =
    let a = c.args in
    let n = c.min-n in
    let s = a.held.now ++ a.piece.now in
    let fits = length-append a.held.now a.piece.now in
    let e = c.tails.ensures ∙ ap (λ (l : List ℕ). stored (take (n.result - 0) l) a.sums.now) c.gather.ensures in (
      refl,
      ap (λ (k : ℕ). a.i + k) n.ensures,
      opened s _ a.sums.now _ a.i n.result (omega (arith, n.ensures, fits)) (omega (arith, n.ensures)) e,
      area_length s _ a.sums.now _ a.i n.result (omega (arith, n.ensures, fits)) (omega (arith, n.ensures)) e ∙ c.requires.3,
    )
