-- All of the field is missing, or what lies behind the data. Assumes nothing.
use mathlib.Core.Path.{sym, ap}
use native.Mathlib.Omega.{arith}
use Rattle.bits.specs.declared.refusal.Refusal.TheVariants.{Short}
use Rattle.bits.proofs.ReadLaws.{missing_all, missing_some}
use Rattle.messages.proofs.read1230.short.Goals as goal

pub returns-then-all-start : goal.returns-then-all-start
returns-then-all-start c =
    let a = c.args in
    ap (Short a.start) (sym (missing_all a.all a.start a.width (omega arith)))

pub returns-else-all-start : goal.returns-else-all-start
returns-else-all-start c =
    let a = c.args in
    ap (Short a.start) (sym (missing_some a.all a.start a.width (omega arith) (omega arith)))
