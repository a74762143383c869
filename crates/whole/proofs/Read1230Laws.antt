-- A call that reads message 1230: which answer is given when. Assumes nothing.
use mathlib.Core.Path.{◌≡◌, sym, ap}
use mathlib.Core.List.{List}
use Prim.Native.Nat.{ℕ, ◌≤◌, ◌<◌}
use borrow.Author.Tests.{lt-ltb, le-ltb, eq-eqb, ne_eqb}
use lib.ListN.{length}
use lib.IntN.{ℤ}
use Rattle.bits.specs.Told.{Told, Accepted, Refused, size}
use Rattle.bits.specs.Outcome.{Outcome, outcome}
use Rattle.bits.specs.Field.{reading}
use Rattle.messages.specs.Records.{Counted}
use Rattle.messages.specs.Read1230.{read1230}
use Rattle.whole.specs.declared.answer.Header1230.{Header1230}
use Rattle.whole.specs.Headers.{front1230}
use Rattle.whole.specs.Whole.{Whole, headed}
use Rattle.whole.specs.Messages.{sizes1230, read_message1230}

module _ (s : List ℕ) (gs : List ℕ) (zs : List ℤ) where
  pub too_long : 1023 < length s → outcome size (gs, zs) ≡ read_message1230 s gs zs
  unfolding read_message1230 sizes1230
  too_long h = rw (lt-ltb _ _ h)

  module _ (few : length s ≤ 1023) where
    pub uneven : (length gs ≡ length zs → ⊥) → outcome size (gs, zs) ≡ read_message1230 s gs zs
    unfolding read_message1230 sizes1230
    uneven h = rw (le-ltb _ _ few, ne_eqb _ _ h)

    module _ (f : length gs ≡ length zs) where
      pub refused : {n : ℕ} {carried : List ℕ} → Refused n carried ≡ front1230.reads s 0 → outcome (Refused n carried) (gs, zs) ≡ read_message1230 s gs zs
      unfolding read_message1230 sizes1230
      refused r = rw (le-ltb _ _ few, eq-eqb _ _ f) (rw (sym r))

      pub reads : {h : Header1230} {b : Told Counted} {gs2 : List ℕ} {zs2 : List ℤ} {w : Told (Whole Header1230)} → Accepted (reading h 28) ≡ front1230.reads s 0
          → outcome b (gs2, zs2) ≡ read1230 s 28 gs zs → w ≡ headed h b → outcome w (gs2, zs2) ≡ read_message1230 s gs zs
      unfolding read_message1230 sizes1230
      reads {h} r o v =
          rw (le-ltb _ _ few, eq-eqb _ _ f) (rw (sym r) (rw v (ap (λ (r : Outcome Counted (List ℕ × List ℤ)). outcome (headed h r.answer) r.areas) o)))
