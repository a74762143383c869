-- The low 24 bits of the checksum so far, continued over what is left, are the whole. Assumes nothing.
use mathlib.Core.Path.{◌≡◌}
use Prim.Native.Nat.{◌%◌, ◌^◌}
use lib.ListN.{drop}
use Rattle.bits.specs.Crc.{crc_from}
use Rattle.bits.proofs.crc.by_table.Given as goal

abbrev pub invariant-loop-byte : goal.invariant-loop-byte
invariant-loop-byte l = crc_from (l.c % 2 ^ 24) (drop l.byte-index l.bytes) ≡ crc_from (l.sum % 2 ^ 24) l.bytes
