-- The low 24 bits of the checksum so far, continued over what is left, are the whole. Assumes nothing.
use mathlib.Core.Path.{sym, ◌∙◌}
use Prim.Native.Nat.{◌%◌, ◌^◌}
use native.Mathlib.Omega.{arith}
use Rattle.bits.proofs.CrcLaws.{from_end}
use Rattle.bits.proofs.TableLaws.{more}
use Rattle.bits.proofs.crc.by_table.Goals as goal

pub loop-byte-preserved : goal.loop-byte-preserved
loop-byte-preserved c =
    let l = c.loop-byte in
    more c.args.bytes.now l.byte-index l.c _ (omega arith) c.crc_byte-c.ensures ∙ l.invariant

pub returns : goal.returns
returns c =
    let l = c.loop-byte in
    sym (from_end c.args.bytes.now l.byte-index (l.c % 2 ^ 24) (omega arith)) ∙ l.invariant
