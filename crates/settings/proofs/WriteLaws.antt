-- Which case of writing holds, and that bytes and sum written one behind another are the block. Assumes nothing.
use mathlib.Core.Path.{◌≡◌, ap, ap₂, ◌∙◌}
use mathlib.Core.Bool.{true, false}
use mathlib.Core.List.{List}
use Prim.Native.Nat.{ℕ, ◌-◌, ◌^◌, ◌≤◌, ◌<◌}
use native.Mathlib.Omega.{arith}
use lib.ListN.{length, take, drop}
use lib.Seq.{take_at}
use borrow.Author.Tests.{lt-ltb, le-ltb, eq-eqb, ne_eqb}
use Rattle.std.specs.Prelude.{Result, Ok, Err, IsErrAnd}
use Rattle.bits.specs.Refusals.{number_of as refusal_number, carried_by}
use Rattle.bits.specs.declared.refusal.Refusal.{Refusal}
use Rattle.bits.specs.declared.refusal.Refusal.TheVariants.{Kind}
use Rattle.settings.specs.Answers.{told_written}
use Rattle.settings.specs.Edition.{number_of}
use Rattle.settings.specs.declared.layout.Edition.{Edition}
use Rattle.settings.specs.declared.layout.Edition.TheVariants.{First, Second}
use Rattle.bits.specs.Told.{Refused, Accepted, size, range, room}
use Rattle.bits.specs.Outcome.{outcome}
use Rattle.bits.specs.Crc.{crc, three_bytes}
use Rattle.bits.specs.Onto.{onto, over}
use Rattle.bits.proofs.CrcLaws.{crc_below}
use Rattle.bits.proofs.OntoLaws.{over_onto}
use Rattle.settings.specs.Block.{known, listed, byte_of, block_of}
use Rattle.settings.specs.Write.{bad_of, may_write, write_settings}
use Rattle.settings.proofs.ListedLaws.{length_listed}

-- an edition of the code is known
pub is_known : (d : Edition) (e : ℕ) → number_of d ≡ e → known e ≡ true
unfolding known
is_known First e q = rw (← q)
is_known Second e q = rw (← q)

module _ (e x : ℕ) (ns ps out : List ℕ) where
  pub no_such_edition : (r : Result (Unit {0}) Refusal) (y : Refusal) → IsErrAnd r (λ z. z ≡ y) → y ≡ Kind → known e ≡ false → outcome (told_written r) out ≡ write_settings e x ns ps out
  unfolding write_settings may_write
  no_such_edition (Err z) y p q k = ap (λ (i : Refusal). outcome (Refused (refusal_number i) (carried_by i)) out) (p ∙ q) ∙ simp k
  no_such_edition (Ok v) y p q k = absurd p

  module _ (k : known e ≡ true) where
    pub unequal_lists : (length ns ≡ length ps → ⊥) → outcome size out ≡ write_settings e x ns ps out
    unfolding write_settings may_write
    unequal_lists n = simp (k, ne_eqb _ _ n)

    module _ (l : length ns ≡ length ps) where
      pub long_lists : 64 < length ns → outcome size out ≡ write_settings e x ns ps out
      unfolding write_settings may_write
      long_lists h = simp (k, eq-eqb _ _ l, lt-ltb _ _ h)

      module _ (h : length ns ≤ 64) where
        pub high_index : 65535 < x → outcome (range 0) out ≡ write_settings e x ns ps out
        unfolding write_settings may_write
        high_index i = simp (k, eq-eqb _ _ l, le-ltb _ _ h, lt-ltb _ _ i)

        module _ (i : x ≤ 65535) where
          pub bad_entry : (b : ℕ) → b ≡ bad_of e ns ps → b < length ns → outcome (range b) out ≡ write_settings e x ns ps out
          unfolding write_settings may_write
          bad_entry b q f =
              let g : bad_of e ns ps < length ns = omega arith in
              ap (λ (n : ℕ). outcome (range n) out) q ∙ simp (k, eq-eqb _ _ l, le-ltb _ _ h, le-ltb _ _ i, lt-ltb _ _ g)

          module _ (f : length ns ≤ bad_of e ns ps) where
            pub no_room : length out < 512 → outcome (room 512) out ≡ write_settings e x ns ps out
            unfolding write_settings may_write
            no_room r =
                simp (k, eq-eqb _ _ l, le-ltb _ _ h, le-ltb _ _ i, le-ltb _ _ f, lt-ltb _ _ r)

            pub is_written : 512 ≤ length out → outcome (Accepted 512) (onto (block_of e x ns ps) out) ≡ write_settings e x ns ps out
            unfolding write_settings may_write
            is_written r =
                simp (k, eq-eqb _ _ l, le-ltb _ _ h, le-ltb _ _ i, le-ltb _ _ f, le-ltb _ _ r)

-- a checksum has 24 bits
pub sum_below : (s : List ℕ) (r : ℕ) → r ≡ crc s → r < 2 ^ 24
sum_below s r e = rw e (crc_below s)

-- the output a after the first 509 bytes, b after their sum
pub bytes_and_sum : (e x : ℕ) (ns ps out a b : List ℕ) (sum : ℕ)
    → a ≡ onto (listed (byte_of e x ns ps) 0 509) out → sum ≡ crc (take (509 - 0) a) → b ≡ over 509 (three_bytes sum) a → b ≡ onto (block_of e x ns ps) out
unfolding block_of
bytes_and_sum e x ns ps out a b sum ea es eb =
    let front = listed (byte_of e x ns ps) 0 509 in
    let l : length front ≡ 509 = length_listed (byte_of e x ns ps) 509 0 in
    let ps' : sum ≡ crc front = es ∙ ap (λ (t : List ℕ). crc (take 509 t)) ea ∙ ap crc (take_at front (drop (length front) out) 509 l) in
    eb ∙ ap₂ (λ (t : List ℕ) (r : ℕ). over 509 (three_bytes r) t) ea ps' ∙ over_onto front (three_bytes (crc front)) out 509 l
