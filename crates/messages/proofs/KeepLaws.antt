-- What each call over a bias block leaves as it was: all that was lent, where it is refused; and of written data their length and the bits outside the block. Assumes nothing.
use mathlib.Core.List.{List}
use Prim.Native.Nat.{ℕ}
use lib.IntN.{ℤ}
use Rattle.bits.proofs.OutcomeLaws.{Keeps, accepted_keeps, refusing_keeps}
use Rattle.messages.specs.Read1059.{filled1059, taken1059, read1059}
use Rattle.messages.specs.Read1230.{filled1230, taken1230, read1230}
use Rattle.messages.specs.Write1059.{write1059}
use Rattle.messages.specs.Write1230.{write1230}
use Rattle.messages.proofs.WriterLaws.{Leaves, run_keeps, run_leaves}

module _ (s : List ℕ) (p : ℕ) where
  pub refused_read_1059 : (sats gs : List ℕ) (zs : List ℤ) → Keeps (sats, gs, zs) (read1059 s p sats gs zs)
  unfolding read1059
  refused_read_1059 sats gs zs = refusing_keeps (sats, gs, zs) (taken1059 s p sats gs zs) (filled1059 sats gs zs) (λ r. accepted_keeps (sats, gs, zs) _ _)

  pub refused_read_1230 : (gs : List ℕ) (zs : List ℤ) → Keeps (gs, zs) (read1230 s p gs zs)
  unfolding read1230
  refused_read_1230 gs zs = refusing_keeps (gs, zs) (taken1230 s p gs zs) (filled1230 gs zs) (λ r. accepted_keeps (gs, zs) _ _)

  pub refused_write_1059 : (e : ℕ) (sats gs : List ℕ) (zs : List ℤ) → Keeps s (write1059 e s p sats gs zs)
  unfolding write1059
  refused_write_1059 e sats gs zs = run_keeps _ s p _

  pub refused_write_1230 : (gs : List ℕ) (zs : List ℤ) → Keeps s (write1230 s p gs zs)
  unfolding write1230
  refused_write_1230 gs zs = run_keeps _ s p _

  pub leaves_1059 : (e : ℕ) (sats gs : List ℕ) (zs : List ℤ) → Leaves s p (write1059 e s p sats gs zs)
  unfolding write1059
  leaves_1059 e sats gs zs = run_leaves _ s p _

  pub leaves_1230 : (gs : List ℕ) (zs : List ℤ) → Leaves s p (write1230 s p gs zs)
  unfolding write1230
  leaves_1230 gs zs = run_leaves _ s p _
