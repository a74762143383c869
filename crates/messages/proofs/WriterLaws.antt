-- A call that writes a run of fields: which answer it gives, and what it leaves as it was. Assumes nothing.
use mathlib.Core.Path.{◌≡◌, refl, sym, ap}
use mathlib.Core.Bool.{Bool, true, false}
use mathlib.Core.Logic.{◌⊎◌}
use mathlib.Core.List.{List}
use Prim.Native.Nat.{ℕ, ◌+◌, ◌*◌, ◌≤◌, ◌<◌}
use borrow.Author.Tests.{ltb-true, ltb-false}
use lib.ListN.{length}
use lib.Dec.{ltb}
use Rattle.bits.specs.Told.{Told, Accepted, Refused, room}
use Rattle.bits.specs.Outcome.{Outcome, outcome}
use Rattle.bits.specs.Field.{bit_at}
use Rattle.bits.specs.Fields.{Field, total, put_all, Bytes}
use Rattle.bits.proofs.OutcomeLaws.{Keeps, refusing_keeps}
use Rattle.bits.proofs.FieldsLaws.{length_put_all, put_all_outside, bytes_put_all}
use Rattle.formats.specs.Written.{fine, put_run}
use Rattle.formats.proofs.WrittenLaws.{onward_accepted, run_room as lacks_room, run_put as is-put, run_accepted as was-put, run_keeps as put_Keeps}
use Rattle.messages.specs.Writer.{write_run}

-- what a call that writes into s from bit p on leaves of it: its length, bytes, and the bits outside the block
pub record Leaves (s : List ℕ) (p : ℕ) (call : Outcome ℕ (List ℕ)) : Type 0 where
  pub long : length call.areas ≡ length s
  pub bytes : Bytes s → Bytes call.areas
  pub outside : {q : ℕ} → call.answer ≡ Accepted q → (k : ℕ) → (k < p) ⊎ (q ≤ k) → bit_at call.areas k ≡ bit_at s k

module _ (refused : Told Unit) (s : List ℕ) (p : ℕ) (fs : List Field) where
  pub run_refused : {n : ℕ} {carried : List ℕ} → refused ≡ Refused n carried → outcome (Refused n carried) s ≡ write_run refused s p fs
  unfolding write_run
  run_refused e = rw e

  pub run_room : refused ≡ fine → length s * 8 < p + total fs → outcome (room (total fs)) s ≡ write_run refused s p fs
  unfolding write_run
  run_room e h = rw e (sym (lacks_room s p fs h))

  pub run_put : refused ≡ fine → p + total fs ≤ length s * 8 → write_run refused s p fs ≡ outcome (Accepted (p + total fs)) (put_all s p fs)
  unfolding write_run
  run_put e h = rw e (is-put s p fs h)

  -- an accepted call was refused nothing, and the data reach so far
  pub run_accepted : {q : ℕ} → (write_run refused s p fs).answer ≡ Accepted q → (refused ≡ fine) × (p + total fs ≤ length s * 8)
  unfolding write_run
  run_accepted h =
      let a = onward_accepted s refused (λ u. put_run s p fs) (ap (λ (t : Told ℕ). outcome t (write_run refused s p fs).areas) h) in
      (a.1, (was-put s p fs a.2).within)

  -- a refused call writes nothing
  pub run_keeps : Keeps s (write_run refused s p fs)
  unfolding write_run
  run_keeps = refusing_keeps s refused (λ u. put_run s p fs) (λ u. put_Keeps s p fs)

  pub run_leaves : Leaves s p (write_run refused s p fs)
  run_leaves = go refused refl (ltb (length s * 8) (p + total fs)) refl
    where
      kept : {n : ℕ} {carried : List ℕ} → outcome (Refused n carried) s ≡ write_run refused s p fs → Leaves s p (write_run refused s p fs)
      kept e = rw (sym e) (record { long = refl; bytes = λ b. b; outside = λ {q} x k o. refl })

      put : p + total fs ≤ length s * 8 → Leaves s p (outcome (Accepted (p + total fs)) (put_all s p fs))
      put h = record {
        long = length_put_all s p fs;
        bytes = bytes_put_all s p fs h;
        outside = λ {q} e k o. let i : p + total fs ≡ q = cc in put_all_outside s p fs k h (rw i o);
      }

      go : (t : Told Unit) → refused ≡ t → (b : Bool) → ltb (length s * 8) (p + total fs) ≡ b → Leaves s p (write_run refused s p fs)
      go (Refused n carried) e b f = kept (run_refused e)
      go (Accepted u) e true f = kept (run_room e (ltb-true (length s * 8) (p + total fs) f))
      go (Accepted u) e false f = let h = ltb-false (length s * 8) (p + total fs) f in rw (run_put e h) (put h)
