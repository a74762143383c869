-- The table's number for the byte that falls out, and the rest moved up. Assumes nothing.
use mathlib.Core.Path.{ap, ◌∙◌}
use Prim.Native.Nat.{ℕ, ◌*◌, ◌%◌, ◌^◌}
use native.Mathlib.Omega.{arith}
use lib.Bits.{bit_xor}
use Rattle.bits.proofs.TableLaws.{by_table}
use Rattle.bits.proofs.crc.crc_byte.Goals as goal

pub returns : goal.returns
returns c =
    let a = c.args in
    ap (λ (e : ℕ). bit_xor e (a.c * 2 ^ 8 % 2 ^ 32) % 2 ^ 24) c.entry.ensures ∙ by_table a.c a.b (omega arith)
