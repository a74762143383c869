-- `messages::write1059::Records1059::write` meets its contract. Each answer is the one that the counts ask for. Assumes nothing.
use mathlib.Core.Path.{◌≡◌, sym, ◌∙◌}
use mathlib.Core.List.{List, [], ◌∷◌}
use Prim.Native.Nat.{ℕ, ◌+◌, ◌*◌, ◌≤◌, ◌<◌}
use native.Mathlib.Omega.{arith}
use borrow.Author.Tests.{leb-true, leb-false}
use lib.ListN.{length, get_or}
use Rattle.bits.specs.Told.{Accepted}
use Rattle.bits.specs.Outcome.{outcome}
use Rattle.bits.specs.Fields.{bits, put_all}
use Rattle.formats.specs.Put.{RoomFor, IsPut}
use Rattle.bits.proofs.RefusalLaws.{passed_on_with}
use Rattle.messages.specs.Records.{records1059}
use Rattle.messages.specs.StepsWrite1059.{satellites_from, write_faultless}
use Rattle.messages.proofs.LinkLaws.{linked_none}
use Rattle.messages.proofs.Write1059Laws.{sound_crowded, sound_all, sound_repeat, sound_counts, sound_room, sound_first, sound_rest, sound_put}
use Rattle.messages.proofs.write1059.Records1059.write.Goals as goal
use Rattle.messages.proofs.write1059.Records1059.write.Goals.{Else-not-has_room}

-- the block lies within the data
room : (c : Else-not-has_room) → c.args.start + (6 + c.present-m.result * 11 + length c.args.self.now.satellites.now * 19) ≤ length c.args.bytes.now * 8
room c = leb-true _ _ (sym c.has_room-has_room.ensures ∙ c.if-not-has_room.false)

-- each satellite has fewer than 32 biases
narrow : (c : Else-not-has_room) (i : ℕ) → i < 64 → get_or c.link.new.self.counts i 0 < 32
narrow c =
    sound_counts c.args.bytes.now c.args.start c.args.self.now.satellites.now c.args.self.now.signals.now c.args.self.now.biases.now c.args.self.now.faultless _ _ _
    c.link.ensures (sym c.in_ok-first_crowded.ensures) _ c.present-m.ensures.0

first_fits : (c : Else-not-has_room) → RoomFor c.args.bytes.now c.args.start (bits 6 c.present-m.result ∷ [])
first_fits c =
    sound_first c.args.bytes.now c.args.start c.args.self.now.satellites.now c.args.self.now.signals.now c.args.self.now.biases.now c.args.self.now.faultless _ _ _
    c.link.ensures (sym c.in_ok-first_crowded.ensures) _ c.present-m.ensures.0
    c.if-m-eq64.false (sym c.in_ok-repeat.ensures) c.requires (room c)

-- t and q are the data and the place behind the satellite count
module _ (c : Else-not-has_room) (t : List ℕ) (q : ℕ) (d : IsPut c.args.bytes.now c.args.start (bits 6 c.present-m.result ∷ []) t q) where
  rest_fits : RoomFor t q (satellites_from 0 64 (records1059 c.args.self.now.satellites.now c.args.self.now.signals.now c.args.self.now.biases.now))
  rest_fits =
      sound_rest c.args.bytes.now c.args.start c.args.self.now.satellites.now c.args.self.now.signals.now c.args.self.now.biases.now c.args.self.now.faultless _ _ _
      c.link.ensures (sym c.in_ok-first_crowded.ensures) _ c.present-m.ensures.0
      c.if-m-eq64.false (sym c.in_ok-repeat.ensures) c.requires (room c) t q d

  written : (u : List ℕ) → u ≡ put_all t q (satellites_from 0 64 (records1059 c.args.self.now.satellites.now c.args.self.now.signals.now c.args.self.now.biases.now))
      → outcome (Accepted (c.args.start + (6 + c.present-m.result * 11 + length c.args.self.now.satellites.now * 19))) u ≡ write_faultless c.args.bytes.now c.args.start (records1059 c.args.self.now.satellites.now c.args.self.now.signals.now c.args.self.now.biases.now)
  written u e =
      sound_put c.args.bytes.now c.args.start c.args.self.now.satellites.now c.args.self.now.signals.now c.args.self.now.biases.now c.args.self.now.faultless _ _ _
      c.link.ensures (sym c.in_ok-first_crowded.ensures) _ c.present-m.ensures.0
      c.if-m-eq64.false (sym c.in_ok-repeat.ensures) c.requires (room c) t q d u e

pub link-requires : goal.link-requires
link-requires c =
    (c.args.self.now.faultless.few, c.args.self.now.faultless.low, linked_none c.args.self.now.satellites.now)

pub returns-in_err-first_crowded : goal.returns-in_err-first_crowded
returns-in_err-first_crowded c =
    let a = c.args in
    passed_on_with (λ q. q) _ _ _ c.from_residual.ensures.1
    ∙ sound_crowded a.bytes.now a.start a.self.now.satellites.now a.self.now.signals.now a.self.now.biases.now c.args.self.now.faultless _ _ _ c.link.ensures (sym c.in_err-first_crowded.ensures)

pub returns-then-m-eq64 : goal.returns-then-m-eq64
returns-then-m-eq64 c =
    let a = c.args in
    sound_all a.bytes.now a.start a.self.now.satellites.now a.self.now.signals.now a.self.now.biases.now c.args.self.now.faultless _ _ _ c.link.ensures (sym c.in_ok-first_crowded.ensures) _ c.present-m.ensures.0 c.if-m-eq64.true

pub returns-in_err-repeat : goal.returns-in_err-repeat
returns-in_err-repeat c =
    let a = c.args in
    passed_on_with (λ q. q) _ _ _ c.from_residual-in_err-repeat.ensures.1
    ∙ sound_repeat a.bytes.now a.start a.self.now.satellites.now a.self.now.signals.now a.self.now.biases.now c.args.self.now.faultless _ _ _ c.link.ensures (sym c.in_ok-first_crowded.ensures) _ c.present-m.ensures.0 c.if-m-eq64.false
    (sym c.in_err-repeat.ensures)

pub returns-then-not-has_room : goal.returns-then-not-has_room
returns-then-not-has_room c =
    let a = c.args in
    sound_room a.bytes.now a.start a.self.now.satellites.now a.self.now.signals.now a.self.now.biases.now c.args.self.now.faultless _ _ _ c.link.ensures (sym c.in_ok-first_crowded.ensures) _ c.present-m.ensures.0 c.if-m-eq64.false (sym c.in_ok-repeat.ensures)
    (leb-false _ _ (sym c.has_room-has_room.ensures ∙ c.if-not-has_room.true))

-- ---- where the block fits

pub unsigned-at-requires : goal.unsigned-at-requires
unsigned-at-requires c = (first_fits (goal.at.unsigned-at-requires c).Else-not-has_room, omega arith, omega arith, omega (arith, c.present-m.ensures.1))

pub put_satellites-requires : goal.put_satellites-requires
put_satellites-requires c =
    let h = (goal.at.put_satellites-requires c).Else-not-has_room in
    (rest_fits h _ _ c.unsigned-at.ensures, c.link.ensures, narrow h)

pub overflow_add-result : goal.overflow_add-result
overflow_add-result c = omega (arith, room (goal.at.overflow_add-result c).Else-not-has_room, c.requires)

pub returns : goal.returns
returns c = written (goal.at.returns c).Else-not-has_room _ _ c.unsigned-at.ensures _ c.put_satellites.ensures
