-- A call that writes message 1230: which answer is given when. Assumes nothing.
use mathlib.Core.Path.{◌≡◌, sym, ap, ◌∙◌}
use mathlib.Core.Bool.{true, false}
use mathlib.Core.List.{List}
use Prim.Native.Nat.{ℕ, ◌≤◌, ◌<◌}
use native.Mathlib.Omega.{arith}
use borrow.Author.Tests.{lt-ltb, le-ltb, eq-eqb, ne_eqb}
use lib.ListN.{length}
use lib.IntN.{ℤ}
use Rattle.std.specs.Prelude.{Ok, Err}
use Rattle.bits.specs.Refusals.{number_of, carried_by}
use Rattle.bits.specs.declared.refusal.Refusal.{Refusal}
use Rattle.bits.specs.Told.{Told, size, range}
use Rattle.bits.specs.Outcome.{Outcome, outcome}
use Rattle.formats.specs.Put.{RoomFor, IsPut}
use Rattle.messages.specs.Answers.{told_block}
use Rattle.messages.specs.Write1230.{write1230}
use Rattle.messages.proofs.Accepts1230.{call_accepted}
use Rattle.messages.proofs.KeepLaws.{leaves_1230}
use Rattle.whole.specs.declared.answer.Header1230.{Header1230}
use Rattle.whole.specs.Headers.{header_fits1230, fields1230}
use Rattle.whole.specs.Whole.{behind, before, fronted}
use Rattle.whole.specs.Messages.{refused1230, write_message1230}
use Rattle.whole.proofs.Header1230.{front_bits}
use Rattle.whole.proofs.BehindLaws.{tells_refused, tells_end}

module _ (s : List ℕ) (h : Header1230) (gs : List ℕ) (zs : List ℤ) where
  abbrev call : Outcome ℕ (List ℕ)
  call = write_message1230 s h gs zs

  pub too_long : 1023 < length s → outcome size s ≡ call
  unfolding write_message1230 refused1230
  too_long p = rw (lt-ltb 1023 (length s) p)

  module _ (k0 : length s ≤ 1023) where
    pub uneven : (length gs ≡ length zs → ⊥) → outcome size s ≡ call
    unfolding write_message1230 refused1230
    uneven p = rw (le-ltb 1023 (length s) k0, ne_eqb (length gs) (length zs) p)

    module _ (k1 : length gs ≡ length zs) where
      pub too_many_lem : 4 < length gs → outcome size s ≡ call
      unfolding write_message1230 refused1230
      too_many_lem p = rw (le-ltb 1023 (length s) k0, eq-eqb (length gs) (length zs) k1, lt-ltb 4 (length gs) p)

      module _ (k2 : length gs ≤ 4) where
        pub wide_header : header_fits1230 h ≡ false → outcome (range 0) s ≡ call
        unfolding write_message1230 refused1230
        wide_header p = rw (le-ltb 1023 (length s) k0, eq-eqb (length gs) (length zs) k1, le-ltb 4 (length gs) k2, p)

        module _ (k3 : header_fits1230 h ≡ true) where
          -- the block is written, or refused
          pub goes_on : {t : Told ℕ} {u : List ℕ} → outcome t u ≡ write1230 s 28 gs zs → before 28 (fields1230 h) t u ≡ call
          unfolding write_message1230 refused1230
          goes_on o = rw (le-ltb 1023 (length s) k0, eq-eqb (length gs) (length zs) k1, le-ltb 4 (length gs) k2, k3) (ap (fronted 28 (fields1230 h)) o)

          module _ {u : List ℕ} where
            pub refused_block : (r x : Refusal) → outcome (told_block (Err r)) u ≡ write1230 s 28 gs zs → told_block (Err x) ≡ behind 28 (number_of r) (carried_by r) → outcome (told_block (Err x)) u ≡ call
            refused_block r x o q = tells_refused 28 (fields1230 h) u r x q ∙ goes_on o

            pub front_fits : {q : ℕ} → outcome (told_block (Ok q)) u ≡ write1230 s 28 gs zs → RoomFor u 0 (fields1230 h)
            front_fits {q} o =
                let same : length u ≡ length s = ap (λ (x : Outcome ℕ (List ℕ)). length x.areas) o ∙ (leaves_1230 s 28 gs zs).long in
                let a = call_accepted s 28 gs zs (sym (ap (λ (x : Outcome ℕ (List ℕ)). x.answer) o)) in
                let b = front_bits h in
                record { few = omega (arith, same, k0); within = omega (arith, same, b, a.within) }

            pub written : {q : ℕ} → outcome (told_block (Ok q)) u ≡ write1230 s 28 gs zs → {v : List ℕ} {p : ℕ} → IsPut u 0 (fields1230 h) v p → outcome (told_block (Ok q)) v ≡ call
            written {q} o d = tells_end 28 (fields1230 h) u q d ∙ goes_on o
