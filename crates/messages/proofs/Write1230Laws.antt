-- Which answer writing the 1230 block gives. Assumes nothing.
use mathlib.Core.Path.{◌≡◌, sym, ap, ap₂, ◌∙◌}
use mathlib.Core.List.{List, []}
use Prim.Native.Nat.{ℕ, ◌+◌, ◌*◌, ◌≤◌, ◌<◌}
use native.Mathlib.Omega.{arith}
use borrow.Author.Tests.{lt-ltb, le-ltb, eq-eqb, ne_eqb}
use lib.Dec.{eqb}
use lib.ListN.{length}
use lib.IntN.{ℤ}
use Rattle.bits.specs.Told.{Accepted, Refused, and_then, size, room}
use Rattle.bits.specs.Outcome.{outcome}
use Rattle.bits.specs.Fields.{put_all}
use Rattle.formats.specs.Put.{RoomFor}
use Rattle.formats.specs.Written.{fine, first_fault}
use Rattle.messages.specs.Records.{records1230}
use Rattle.messages.specs.Writer.{first_repeat}
use Rattle.messages.specs.Write1230.{fault1230, fields1230, refused1230, write1230}
use Rattle.messages.specs.StepsWrite1230.{Faultless1230}
use Rattle.messages.proofs.WriterLaws.{run_refused, run_put, run_room}
use Rattle.messages.proofs.Fields1230Laws.{bits_is}

module _ (s : List ℕ) (p : ℕ) (gs : List ℕ) (zs : List ℤ) where
  refusal : {n : ℕ} {carried : List ℕ} → refused1230 (length s) gs zs ≡ Refused n carried → outcome (Refused n carried) s ≡ write1230 s p gs zs
  unfolding write1230
  refusal e = run_refused (refused1230 (length s) gs zs) s p (fields1230 (records1230 gs zs)) e

  pub long_data : 1023 < length s → outcome size s ≡ write1230 s p gs zs
  unfolding refused1230
  long_data h = refusal (rw (lt-ltb 1023 (length s) h))

  module _ (h : length s ≤ 1023) where
    pub uneven_lists : (length gs ≡ length zs → ⊥) → outcome size s ≡ write1230 s p gs zs
    unfolding refused1230
    uneven_lists d = refusal (rw (le-ltb 1023 (length s) h, ne_eqb (length gs) (length zs) d))

    module _ (l : length gs ≡ length zs) where
      pub many_records : 4 < length gs → outcome size s ≡ write1230 s p gs zs
      unfolding refused1230
      many_records m = refusal (rw (le-ltb 1023 (length s) h, eq-eqb (length gs) (length zs) l, lt-ltb 4 (length gs) m))

      module _ (m : length gs ≤ 4) where
        by_signals : refused1230 (length s) gs zs ≡ and_then (first_fault fault1230 0 gs) (λ u. first_repeat eqb 0 [] gs)
        unfolding refused1230
        by_signals = rw (le-ltb 1023 (length s) h, eq-eqb (length gs) (length zs) l, le-ltb 4 (length gs) m)

        pub some_unknown : {k : ℕ} {carried : List ℕ} → first_fault fault1230 0 gs ≡ Refused k carried → outcome (Refused k carried) s ≡ write1230 s p gs zs
        some_unknown e = refusal (rw (by_signals, e))

        module _ (known : first_fault fault1230 0 gs ≡ fine) where
          pub some_repeat : {k : ℕ} {carried : List ℕ} → first_repeat eqb 0 [] gs ≡ Refused k carried → outcome (Refused k carried) s ≡ write1230 s p gs zs
          some_repeat e = refusal (rw (by_signals, known, e))

          pub faultless : first_repeat eqb 0 [] gs ≡ fine → Faultless1230 gs zs
          faultless e = record { even = l; most = m; known = known; single = e }

    module _ (f : Faultless1230 gs zs) where
      nothing : refused1230 (length s) gs zs ≡ fine
      unfolding refused1230
      nothing = rw (le-ltb 1023 (length s) h, eq-eqb (length gs) (length zs) f.even, le-ltb 4 (length gs) f.most, f.known, f.single)

      pub too_long : length s * 8 < p + (4 + length gs * 16) → outcome (room (4 + length gs * 16)) s ≡ write1230 s p gs zs
      unfolding write1230
      too_long n =
          let b = bits_is gs zs f.even f.known in
          ap (λ (k : ℕ). outcome (room k) s) (sym b) ∙ run_room (refused1230 (length s) gs zs) s p (fields1230 (records1230 gs zs)) nothing (omega (arith, b))

      module _ (n : p + (4 + length gs * 16) ≤ length s * 8) where
        pub block_fits : RoomFor s p (fields1230 (records1230 gs zs))
        block_fits = record { few = h; within = omega (arith, bits_is gs zs f.even f.known) }

        pub block_put : (t : List ℕ) → t ≡ put_all s p (fields1230 (records1230 gs zs)) → outcome (Accepted (p + (4 + length gs * 16))) t ≡ write1230 s p gs zs
        unfolding write1230
        block_put t e =
            ap₂ (λ (k : ℕ) (x : List ℕ). outcome (Accepted (p + k)) x) (sym (bits_is gs zs f.even f.known)) e
            ∙ sym (run_put (refused1230 (length s) gs zs) s p (fields1230 (records1230 gs zs)) nothing block_fits.within)
