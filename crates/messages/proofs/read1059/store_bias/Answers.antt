-- `messages::read1059::store_bias` meets its contract. Signal and bias are the upper and the lower part of one field, and the record that they make is stored. Assumes nothing.
use mathlib.Core.Path.{refl, sym, ap, ◌∙◌}
use native.Mathlib.Omega.{arith}
use Rattle.bits.specs.Answers.{told_unsigned}
use Rattle.bits.proofs.ReadLaws.{taken}
use Rattle.messages.proofs.ArmLaws.{is_there}
use Rattle.messages.proofs.I16Laws.{same_14}
use Rattle.messages.proofs.PassLaws.{suffices_one}
use Rattle.messages.proofs.Read1059Laws.{bias_within, bias_read, bias_stored}
use Rattle.messages.proofs.read1059.store_bias.Goals as goal

pub unwrap-both-requires : goal.unwrap-both-requires
unwrap-both-requires c =
    let r = c.requires in
    is_there _ _ 19 r.few (omega arith) (omega arith) (bias_within _ r.few _ _ r.suffices.is) _ c.read_unsigned.ensures

pub bounds-satellites-i : goal.bounds-satellites-i
bounds-satellites-i c =
    let r = c.requires in
    let e = sym c.read_unsigned.ensures ∙ ap told_unsigned c.unwrap-both.ensures in
    suffices_one r.suffices (bias_read _ r.few _ _ e)

pub overflow_cast-signals : goal.overflow_cast-signals
overflow_cast-signals c =
    let t = taken _ _ 19 (sym c.read_unsigned.ensures ∙ ap told_unsigned c.unwrap-both.ensures) in
    omega arith

pub bounds-signals-i : goal.bounds-signals-i
bounds-signals-i c =
    let r = c.requires in
    let e = sym c.read_unsigned.ensures ∙ ap told_unsigned c.unwrap-both.ensures in
    let h = suffices_one r.suffices (bias_read _ r.few _ _ e) in
    omega arith

pub bounds-biases-i : goal.bounds-biases-i
bounds-biases-i c =
    let r = c.requires in
    let e = sym c.read_unsigned.ensures ∙ ap told_unsigned c.unwrap-both.ensures in
    let h = suffices_one r.suffices (bias_read _ r.few _ _ e) in
    omega arith

pub returns : goal.returns
returns c =
    let e = sym c.read_unsigned.ensures ∙ ap told_unsigned c.unwrap-both.ensures in
    bias_stored _ c.requires.few _ _ _ _ _ _ e refl (same_14 _ (omega arith) c.bias_of.ensures)
