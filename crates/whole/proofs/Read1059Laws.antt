-- A call that reads message 1059: which answer is given when. Assumes nothing.
use mathlib.Core.Path.{◌≡◌, sym, ap}
use mathlib.Core.List.{List}
use Prim.Native.Nat.{ℕ, ◌≤◌, ◌<◌}
use borrow.Author.Tests.{lt-ltb, le-ltb, eq-eqb, ne_eqb}
use lib.ListN.{length}
use lib.IntN.{ℤ}
use Rattle.bits.specs.Told.{Told, Accepted, Refused, size}
use Rattle.bits.specs.Outcome.{Outcome, outcome}
use Rattle.bits.specs.Field.{reading}
use Rattle.messages.specs.Records.{Counted}
use Rattle.messages.specs.Read1059.{read1059}
use Rattle.whole.specs.declared.answer.Header1059.{Header1059}
use Rattle.whole.specs.Headers.{front1059}
use Rattle.whole.specs.Whole.{Whole, headed}
use Rattle.whole.specs.Messages.{sizes1059, read_message1059}

module _ (s : List ℕ) (sats gs : List ℕ) (zs : List ℤ) where
  pub too_long : 1023 < length s → outcome size (sats, gs, zs) ≡ read_message1059 s sats gs zs
  unfolding read_message1059 sizes1059
  too_long h = rw (lt-ltb _ _ h)

  module _ (few : length s ≤ 1023) where
    pub uneven : (length sats ≡ length gs → ⊥) → outcome size (sats, gs, zs) ≡ read_message1059 s sats gs zs
    unfolding read_message1059 sizes1059
    uneven h = rw (le-ltb _ _ few, ne_eqb _ _ h)

    module _ (e : length sats ≡ length gs) where
      pub uneven_too : (length sats ≡ length zs → ⊥) → outcome size (sats, gs, zs) ≡ read_message1059 s sats gs zs
      unfolding read_message1059 sizes1059
      uneven_too h = rw (le-ltb _ _ few, eq-eqb _ _ e, ne_eqb _ _ h)

      module _ (f : length sats ≡ length zs) where
        pub refused : {n : ℕ} {carried : List ℕ} → Refused n carried ≡ front1059.reads s 0 → outcome (Refused n carried) (sats, gs, zs) ≡ read_message1059 s sats gs zs
        unfolding read_message1059 sizes1059
        refused r = rw (le-ltb _ _ few, eq-eqb _ _ e, eq-eqb _ _ f) (rw (sym r))

        pub reads : {h : Header1059} {b : Told Counted} {sats2 gs2 : List ℕ} {zs2 : List ℤ} {w : Told (Whole Header1059)} → Accepted (reading h 61) ≡ front1059.reads s 0
            → outcome b (sats2, gs2, zs2) ≡ read1059 s 61 sats gs zs → w ≡ headed h b → outcome w (sats2, gs2, zs2) ≡ read_message1059 s sats gs zs
        unfolding read_message1059 sizes1059
        reads {h} r o v =
            rw (le-ltb _ _ few, eq-eqb _ _ e, eq-eqb _ _ f) (rw (sym r) (rw v (ap (λ (r : Outcome Counted (List ℕ × List ℕ × List ℤ)). outcome (headed h r.answer) r.areas) o)))
