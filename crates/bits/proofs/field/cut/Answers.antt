-- All of the field is missing, or what lies behind the data. Assumes nothing.
use mathlib.Core.Path.{sym, ap}
use native.Mathlib.Omega.{arith}
use Rattle.bits.specs.declared.refusal.Refusal.TheVariants.{Short}
use Rattle.bits.proofs.ReadLaws.{missing_all, missing_some}
use Rattle.bits.proofs.field.cut.Goals as goal

pub returns-then-all-start : goal.returns-then-all-start
returns-then-all-start c =
    let a = c.args in
    ap (Short a.start) (sym (missing_all a.all a.start a.width (omega arith)))

pub returns : goal.returns
returns c =
    let a = c.args in
    ap (Short a.start) (sym (missing_some a.all a.start a.width (omega arith) (omega arith)))
