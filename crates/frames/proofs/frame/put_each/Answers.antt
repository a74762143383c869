-- The loop has copied the first k bytes of the part. Assumes nothing.
use Prim.Native.Nat.{◌+◌}
use mathlib.Core.Path.{◌≡◌, refl, ap, ◌∙◌}
use native.Mathlib.Omega.{arith}
use native.Mathlib.Numerals.{add-one}
use lib.ListN.{length, get_or, set, length-set}
use lib.Seq.{paste-zero, paste-suc, take-length}
use Rattle.frames.proofs.frame.put_each.Goals as goal

pub loop-k-init : goal.loop-k-init
loop-k-init c = let a = c.args in (paste-zero a.out.now a.i a.part.now, refl)

pub loop-k-preserved : goal.loop-k-preserved
loop-k-preserved c =
    let a = c.args in (
      ap (λ x. set x (a.i + c.loop-k.k) (get_or a.part.now c.loop-k.k 0)) c.loop-k.invariant.0
          ∙ paste-suc a.out.now a.i a.part.now c.loop-k.k 0 (omega arith) (omega arith) ∙ rw add-one,
      rw length-set c.loop-k.invariant.1,
    )

pub returns : goal.returns
returns c =
    let a = c.args in
    let e : c.loop-k.k ≡ length a.part.now = omega arith in
    c.loop-k.invariant.0 ∙ rw (e, take-length)
