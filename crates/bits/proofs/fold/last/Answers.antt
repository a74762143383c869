-- The last word comes down to 60 bits, and these to what the division leaves. Assumes nothing.
use mathlib.Core.Path.{ap, ◌∙◌}
use Prim.Native.Nat.{ℕ, ◌%◌, ◌^◌}
use lib.Bits.{bit_xor}
use Rattle.bits.specs.FoldSteps.{product}
use Rattle.bits.proofs.FoldLaws.{last_word}
use Rattle.bits.proofs.fold.last.Goals as goal

pub returns : goal.returns
returns c =
    let g = c.before.before.before in
    let v = c.sixty-v.result in
    ap (λ (n : ℕ). bit_xor n v % 2 ^ 24) (c.product.ensures ∙ ap product c.quotient.ensures)
    ∙ last_word g.args.w v g.ranges.w.fits c.sixty-v.ensures
