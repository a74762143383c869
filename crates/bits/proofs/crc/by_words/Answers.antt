-- The first bytes are one word with zeros in front, and the words behind it are folded. Assumes nothing.
use mathlib.Core.Path.{ap, sym, ◌∙◌}
use Prim.Native.Nat.{ℕ, ◌*◌, ◌-◌, ◌/◌, ◌^◌}
use native.Mathlib.Omega.{arith}
use lib.ListN.{length}
use Rattle.bits.proofs.CrcLaws.{crc_is}
use Rattle.bits.proofs.StepLaws.{first_word}
use Rattle.bits.proofs.crc.by_words.Goals as goal

pub returns : goal.returns
returns c =
    let s = c.args.bytes.now in
    let front = length s - (length s - 1) / 8 * 8 in
    c.words.ensures
    ∙ first_word s front _ (omega arith) (omega arith) (λ k. (c.type_inv.bytes k).fits)
    (ap (λ (x : ℕ). x / 2 ^ (64 - front * 8)) c.eight_at.ensures)
    ∙ sym (crc_is s)
