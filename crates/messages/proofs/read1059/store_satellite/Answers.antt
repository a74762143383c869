-- `messages::read1059::store_satellite` meets its contract. Its number and its bias count are the upper and the lower part of one field, and its biases are stored. Assumes nothing.
use mathlib.Core.Path.{sym, ap, ◌∙◌}
use native.Mathlib.Omega.{arith}
use Rattle.bits.specs.Answers.{told_unsigned}
use Rattle.bits.proofs.ReadLaws.{taken}
use Rattle.messages.specs.StepsRead.{put1059}
use Rattle.messages.proofs.ArmLaws.{is_there}
use Rattle.messages.proofs.PassLaws.{suffices_as, stored_as}
use Rattle.messages.proofs.Read1059Laws.{satellite_within, satellite_look}
use Rattle.messages.proofs.read1059.store_satellite.Goals as goal

pub unwrap-both-requires : goal.unwrap-both-requires
unwrap-both-requires c =
    let r = c.requires in
    is_there _ _ 11 r.few (omega arith) (omega arith) (satellite_within _ r.few _ r.suffices.is) _ c.read_unsigned.ensures

pub overflow_cast-both : goal.overflow_cast-both
overflow_cast-both c =
    let t = taken _ _ 11 (sym c.read_unsigned.ensures ∙ ap told_unsigned c.unwrap-both.ensures) in
    omega arith

pub store_biases-requires : goal.store_biases-requires
store_biases-requires c =
    let r = c.requires in
    let e = sym c.read_unsigned.ensures ∙ ap told_unsigned c.unwrap-both.ensures in
    record { few = r.few; suffices = suffices_as (satellite_look _ r.few _ e) r.suffices; signals = r.signals; biases = r.biases }

pub returns : goal.returns
returns c =
    let e = sym c.read_unsigned.ensures ∙ ap told_unsigned c.unwrap-both.ensures in
    stored_as put1059 (satellite_look _ c.requires.few _ e) c.store_biases.ensures
