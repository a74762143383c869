-- A refused call over a whole message leaves all that it was lent as it came. Assumes nothing.
use mathlib.Core.List.{List}
use Prim.Native.Nat.{ℕ}
use lib.ListN.{length}
use lib.IntN.{ℤ}
use Rattle.bits.proofs.OutcomeLaws.{Keeps, refusing_keeps}
use Rattle.messages.specs.Read1059.{read1059}
use Rattle.messages.specs.Read1230.{read1230}
use Rattle.messages.specs.Write1059.{write1059}
use Rattle.messages.specs.Write1230.{write1230}
use Rattle.messages.proofs.KeepLaws.{refused_read_1059, refused_read_1230, refused_write_1059, refused_write_1230}
use Rattle.whole.specs.declared.answer.Header1059.{Header1059}
use Rattle.whole.specs.declared.answer.Header1230.{Header1230}
use Rattle.whole.specs.Headers.{front1059, fields1059, front1230, fields1230}
use Rattle.whole.specs.Messages.{sizes1059, read_message1059, refused1059, write_message1059, sizes1230, read_message1230, refused1230, write_message1230}
use Rattle.whole.proofs.CallLaws.{headed_keeps, fronted_keeps}

pub refused_read_message_1059 : (s sats gs : List ℕ) (zs : List ℤ) → Keeps (sats, gs, zs) (read_message1059 s sats gs zs)
unfolding read_message1059
refused_read_message_1059 s sats gs zs =
    refusing_keeps (sats, gs, zs) (sizes1059 s sats gs zs) _ (λ u.
    refusing_keeps (sats, gs, zs) (front1059.reads s 0) _ (λ h.
    headed_keeps h.value (sats, gs, zs) (read1059 s h.next sats gs zs) (refused_read_1059 s h.next sats gs zs)))

pub refused_read_message_1230 : (s gs : List ℕ) (zs : List ℤ) → Keeps (gs, zs) (read_message1230 s gs zs)
unfolding read_message1230
refused_read_message_1230 s gs zs =
    refusing_keeps (gs, zs) (sizes1230 s gs zs) _ (λ u.
    refusing_keeps (gs, zs) (front1230.reads s 0) _ (λ h.
    headed_keeps h.value (gs, zs) (read1230 s h.next gs zs) (refused_read_1230 s h.next gs zs)))

pub refused_write_message_1059 : (e : ℕ) (s : List ℕ) (h : Header1059) (sats gs : List ℕ) (zs : List ℤ) → Keeps s (write_message1059 e s h sats gs zs)
unfolding write_message1059
refused_write_message_1059 e s h sats gs zs =
    refusing_keeps s (refused1059 e (length s) h sats gs zs) _ (λ u. fronted_keeps 61 (fields1059 h) s (write1059 e s 61 sats gs zs) (refused_write_1059 s 61 e sats gs zs))

pub refused_write_message_1230 : (s : List ℕ) (h : Header1230) (gs : List ℕ) (zs : List ℤ) → Keeps s (write_message1230 s h gs zs)
unfolding write_message1230
refused_write_message_1230 s h gs zs =
    refusing_keeps s (refused1230 (length s) h gs zs) _ (λ u. fronted_keeps 28 (fields1230 h) s (write1230 s 28 gs zs) (refused_write_1230 s 28 gs zs))
