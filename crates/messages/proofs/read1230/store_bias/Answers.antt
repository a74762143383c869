-- `messages::read1230::store_bias` meets its contract. The bias is read, and the record that it makes is stored. Assumes nothing.
use mathlib.Core.Path.{sym, ap, ◌∙◌}
use native.Mathlib.Omega.{arith}
use Rattle.bits.specs.Signed.{twos_of}
use Rattle.bits.specs.Field.{reading}
use Rattle.bits.specs.Answers.{told_signed}
use Rattle.bits.proofs.ReadLaws.{reads_value}
use Rattle.messages.proofs.ArmLaws.{is_good}
use Rattle.messages.proofs.I16Laws.{bias_narrow}
use Rattle.messages.proofs.PassLaws.{suffices_one}
use Rattle.messages.proofs.Read1230Laws.{bias_within, bias_read, bias_stored}
use Rattle.messages.proofs.read1230.store_bias.Goals as goal

pub unwrap-bias-requires : goal.unwrap-bias-requires
unwrap-bias-requires c =
    let r = c.requires in
    is_good (λ x. reading x.0 x.1) _
    (c.read_twos.ensures ∙ reads_value (twos_of 16) _ _ 16 r.few (omega arith) (omega arith) (bias_within _ r.few _ _ r.suffices.is))

pub bounds-signals-i : goal.bounds-signals-i
bounds-signals-i c =
    let e = sym c.read_twos.ensures ∙ ap told_signed c.unwrap-bias.ensures in
    suffices_one c.requires.suffices (bias_read _ _ _ e)

pub overflow_cast-biases : goal.overflow_cast-biases
overflow_cast-biases c =
    let e = sym c.read_twos.ensures ∙ ap told_signed c.unwrap-bias.ensures in
    (bias_narrow _ _ 16 (omega arith) e).0

pub bounds-biases-i : goal.bounds-biases-i
bounds-biases-i c =
    let e = sym c.read_twos.ensures ∙ ap told_signed c.unwrap-bias.ensures in
    let h = suffices_one c.requires.suffices (bias_read _ _ _ e) in
    omega arith

pub returns : goal.returns
returns c =
    let e = sym c.read_twos.ensures ∙ ap told_signed c.unwrap-bias.ensures in
    bias_stored _ _ _ _ _ _ e (bias_narrow _ _ 16 (omega arith) e).1
