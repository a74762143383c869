-- A settings call that is refused leaves all that it was lent as it came. Assumes nothing.
use mathlib.Core.Bool.{cond, not}
use mathlib.Core.List.{List}
use Prim.Native.Nat.{ℕ}
use lib.ListN.{length}
use lib.Dec.{eqb}
use Rattle.bits.specs.Told.{size}
use Rattle.bits.specs.Onto.{onto}
use Rattle.bits.proofs.OutcomeLaws.{Keeps, writing_keeps}
use Rattle.settings.specs.Block.{block_of, numbers_in, priorities_in}
use Rattle.settings.specs.Read.{judge, read_settings}
use Rattle.settings.specs.Write.{may_write, write_settings}

pub read_keeps : (s : List ℕ) (reader index : ℕ) (ns ps : List ℕ) → Keeps (ns, ps) (read_settings s reader index ns ps)
unfolding read_settings
read_keeps s reader index ns ps =
    writing_keeps (ns, ps) (cond (not (eqb (length ns) 64)) size (cond (not (eqb (length ps) 64)) size (judge s reader index))) (λ f. (onto (numbers_in s) ns, onto (priorities_in s) ps))

pub write_keeps : (edition index : ℕ) (ns ps out : List ℕ) → Keeps out (write_settings edition index ns ps out)
unfolding write_settings
write_keeps edition index ns ps out = writing_keeps out (may_write edition index ns ps (length out)) (λ n. onto (block_of edition index ns ps) out)
