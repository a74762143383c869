-- The first i bytes are written. Assumes nothing.
use mathlib.Core.Path.{◌≡◌, refl, ap, ◌∙◌}
use Prim.Native.Nat.{ℕ}
use native.Mathlib.Omega.{arith}
use lib.ListN.{length-set}
use Rattle.bits.specs.Onto.{onto}
use Rattle.settings.specs.Block.{listed, byte_of}
use Rattle.settings.specs.Edition.{number_of}
use Rattle.settings.proofs.ListedLaws.{onto_none, onto_next}
use Rattle.settings.proofs.write.put_bytes.Goals as goal

pub loop-i-init : goal.loop-i-init
loop-i-init c = let a = c.args in (onto_none (byte_of (number_of a.edition) a.index a.numbers.now a.priorities.now) a.out.now, refl)

pub loop-i-preserved : goal.loop-i-preserved
loop-i-preserved c =
    let a = c.args in
    let l = c.loop-i in (
      onto_next (byte_of (number_of a.edition) a.index a.numbers.now a.priorities.now) a.out.now l.out l.i c.byte_of.result l.invariant.0 (omega arith) c.byte_of.ensures,
      rw length-set l.invariant.1,
    )

pub returns : goal.returns
returns c =
    let a = c.args in
    let l = c.loop-i in
    let e : l.i ≡ 509 = omega arith in
    l.invariant.0 ∙ ap (λ (n : ℕ). onto (listed (byte_of (number_of a.edition) a.index a.numbers.now a.priorities.now) 0 n) a.out.now) e
