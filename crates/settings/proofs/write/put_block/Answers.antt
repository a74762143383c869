-- The first 509 bytes, and their sum behind them. Assumes nothing.
use native.Mathlib.Omega.{arith}
use Rattle.settings.specs.Edition.{number_of}
use Rattle.settings.proofs.WriteLaws.{sum_below, bytes_and_sum}
use Rattle.settings.proofs.write.put_block.Goals as goal

pub put_three-requires : goal.put_three-requires
put_three-requires c = (omega arith, sum_below _ _ c.crc24q-sum.ensures)

pub returns : goal.returns
returns c = let a = c.args in bytes_and_sum (number_of a.edition) a.index a.numbers.now a.priorities.now a.out.now _ _ _ c.put_bytes.ensures c.crc24q-sum.ensures c.put_three.ensures
