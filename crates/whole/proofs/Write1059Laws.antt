-- A call that writes message 1059: which answer is given when. Assumes nothing.
use mathlib.Core.Path.{◌≡◌, sym, ap, ◌∙◌}
use mathlib.Core.Bool.{true, false}
use mathlib.Core.List.{List}
use Prim.Native.Nat.{ℕ, ◌≤◌, ◌<◌}
use native.Mathlib.Omega.{arith}
use borrow.Author.Tests.{lt-ltb, le-ltb, eq-eqb, ne_eqb}
use lib.ListN.{length}
use lib.IntN.{ℤ}
use Rattle.std.specs.Prelude.{Ok, Err}
use Rattle.bits.specs.Refusals.{number_of, carried_by}
use Rattle.bits.specs.declared.refusal.Refusal.{Refusal}
use Rattle.bits.specs.Told.{Told, size, kind, range}
use Rattle.bits.specs.Outcome.{Outcome, outcome}
use Rattle.formats.specs.Put.{RoomFor, IsPut}
use Rattle.messages.specs.Answers.{told_block}
use Rattle.messages.specs.Signals1059.{is_edition}
use Rattle.messages.specs.Write1059.{write1059}
use Rattle.messages.proofs.Accepts1059.{call_accepted}
use Rattle.messages.proofs.KeepLaws.{leaves_1059}
use Rattle.whole.specs.declared.answer.Header1059.{Header1059}
use Rattle.whole.specs.Headers.{header_fits1059, fields1059}
use Rattle.whole.specs.Whole.{behind, before, fronted}
use Rattle.whole.specs.Messages.{refused1059, write_message1059}
use Rattle.whole.proofs.Header1059.{front_bits}
use Rattle.whole.proofs.BehindLaws.{tells_refused, tells_end}

module _ (e : ℕ) (s : List ℕ) (h : Header1059) (sats gs : List ℕ) (zs : List ℤ) where
  abbrev call : Outcome ℕ (List ℕ)
  call = write_message1059 e s h sats gs zs

  pub another_edition : is_edition e ≡ false → outcome kind s ≡ call
  unfolding write_message1059 refused1059
  another_edition p = rw (p)

  module _ (k0 : is_edition e ≡ true) where
    pub too_long : 1023 < length s → outcome size s ≡ call
    unfolding write_message1059 refused1059
    too_long p = rw (k0, lt-ltb 1023 (length s) p)

    module _ (k1 : length s ≤ 1023) where
      pub uneven : (length sats ≡ length gs → ⊥) → outcome size s ≡ call
      unfolding write_message1059 refused1059
      uneven p = rw (k0, le-ltb 1023 (length s) k1, ne_eqb (length sats) (length gs) p)

      module _ (k2 : length sats ≡ length gs) where
        pub uneven_too : (length sats ≡ length zs → ⊥) → outcome size s ≡ call
        unfolding write_message1059 refused1059
        uneven_too p = rw (k0, le-ltb 1023 (length s) k1, eq-eqb (length sats) (length gs) k2, ne_eqb (length sats) (length zs) p)

        module _ (k3 : length sats ≡ length zs) where
          pub too_many_lem : 1953 < length sats → outcome size s ≡ call
          unfolding write_message1059 refused1059
          too_many_lem p = rw (k0, le-ltb 1023 (length s) k1, eq-eqb (length sats) (length gs) k2, eq-eqb (length sats) (length zs) k3, lt-ltb 1953 (length sats) p)

          module _ (k4 : length sats ≤ 1953) where
            pub wide_header : header_fits1059 h ≡ false → outcome (range 0) s ≡ call
            unfolding write_message1059 refused1059
            wide_header p = rw (k0, le-ltb 1023 (length s) k1, eq-eqb (length sats) (length gs) k2, eq-eqb (length sats) (length zs) k3, le-ltb 1953 (length sats) k4, p)

            module _ (k5 : header_fits1059 h ≡ true) where
              -- the block is written, or refused
              pub goes_on : {t : Told ℕ} {u : List ℕ} → outcome t u ≡ write1059 e s 61 sats gs zs → before 61 (fields1059 h) t u ≡ call
              unfolding write_message1059 refused1059
              goes_on o = rw (k0, le-ltb 1023 (length s) k1, eq-eqb (length sats) (length gs) k2, eq-eqb (length sats) (length zs) k3, le-ltb 1953 (length sats) k4, k5) (ap (fronted 61 (fields1059 h)) o)

              module _ {u : List ℕ} where
                pub refused_block : (r x : Refusal) → outcome (told_block (Err r)) u ≡ write1059 e s 61 sats gs zs → told_block (Err x) ≡ behind 61 (number_of r) (carried_by r) → outcome (told_block (Err x)) u ≡ call
                refused_block r x o q = tells_refused 61 (fields1059 h) u r x q ∙ goes_on o

                pub front_fits : {q : ℕ} → outcome (told_block (Ok q)) u ≡ write1059 e s 61 sats gs zs → RoomFor u 0 (fields1059 h)
                front_fits {q} o =
                    let same : length u ≡ length s = ap (λ (x : Outcome ℕ (List ℕ)). length x.areas) o ∙ (leaves_1059 s 61 e sats gs zs).long in
                    let a = call_accepted e s 61 sats gs zs (sym (ap (λ (x : Outcome ℕ (List ℕ)). x.answer) o)) in
                    let b = front_bits h in
                    record { few = omega (arith, same, k1); within = omega (arith, same, b, a.within) }

                pub written : {q : ℕ} → outcome (told_block (Ok q)) u ≡ write1059 e s 61 sats gs zs → {v : List ℕ} {p : ℕ} → IsPut u 0 (fields1059 h) v p → outcome (told_block (Ok q)) v ≡ call
                written {q} o d = tells_end 61 (fields1059 h) u q d ∙ goes_on o
