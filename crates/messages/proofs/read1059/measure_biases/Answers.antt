-- `messages::read1059::measure_biases` meets its contract. Each bias has 19 bits, so what fits follows from the bits that are left, and the field that is cut short is read. Assumes nothing.
use mathlib.Core.Path.{sym, ◌∙◌}
use native.Mathlib.Omega.{arith}
use Rattle.bits.specs.Signed.{twos_of}
use Rattle.bits.proofs.ReadLaws.{reads_short, refused_behind, read_tells, taken}
use Rattle.bits.proofs.RefusalLaws.{passed_on}
use Rattle.messages.specs.Answers.{records_of}
use Rattle.messages.proofs.ArmLaws.{refused_alike}
use Rattle.messages.proofs.Read1059Laws.{biases_fit, no_signal, no_bias}
use Rattle.messages.proofs.read1059.measure_biases.Goals as goal

pub returns-then-n-whole : goal.returns-then-n-whole
returns-then-n-whole c = λ a. biases_fit _ (omega arith) a _ _ _ (omega arith)

pub returns-in_err-at : goal.returns-in_err-at
returns-in_err-at c =
    let e = c.in_err-at.ensures in
    let l = refused_behind (λ v. v) _ _ 5 (omega arith) (omega arith) (omega arith) (sym e) in
    λ a.
    passed_on records_of _ _ c.from_residual.ensures.1
    ∙ refused_alike (e ∙ reads_short (λ v. v) _ _ 5 (omega arith) (omega arith) (omega arith) l)
    ∙ no_signal _ (omega arith) a _ _ _ _ (omega arith) (omega arith) (omega arith)

pub returns-in_err-read_twos : goal.returns-in_err-read_twos
returns-in_err-read_twos c =
    let w = taken _ _ 5 (sym c.in_ok-at.ensures) in
    λ a.
    passed_on records_of _ _ c.from_residual-in_err-read_twos.ensures.1
    ∙ refused_alike (c.in_err-read_twos.ensures ∙ reads_short (twos_of 14) _ _ 14 (omega arith) (omega arith) (omega arith) (omega arith))
    ∙ no_bias _ (omega arith) a _ _ _ _ (omega arith) (omega arith) (omega arith) w.1

pub unreachable-requires : goal.unreachable-requires
unreachable-requires c =
    let w = taken _ _ 5 (sym c.in_ok-at.ensures) in
    let t = read_tells (twos_of 14) _ _ 14 (sym c.in_ok-read_twos.ensures) in
    omega (arith, t.within)
