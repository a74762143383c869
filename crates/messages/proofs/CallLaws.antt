-- A call that reads: which answer it gives, as the two passes decide it. Assumes nothing.
use mathlib.Core.Path.{◌≡◌, sym, ap, ap₂, ◌∙◌}
use mathlib.Core.List.{List}
use Prim.Native.Nat.{ℕ, ◌≤◌, ◌<◌}
use native.Mathlib.Nat.{zero-add}
use native.Mathlib.Omega.{arith}
use borrow.Author.Tests.{lt-ltb, le-ltb}
use lib.ListN.{length}
use Rattle.bits.specs.Told.{Told, Accepted, Refused, room, and_then}
use Rattle.bits.specs.Field.{Reading, reading}
use Rattle.messages.specs.Reader.{room_for}
use Rattle.messages.specs.Records.{Counted, counted}
use Rattle.messages.specs.StepsRead.{counts, records_in, Suffices, Stored}
use Rattle.messages.proofs.PassLaws.{counted_tells, refused_tells}

-- where the count is at most n, n places suffice for the records
pub has_room : {A : Type 0} (n : ℕ) (t : Told (Reading (List A))) {j q : ℕ} → Accepted (counted j q) ≡ counts 0 t → j ≤ n → Suffices 0 t n
has_room n t {j} {q} e h =
    let s = counted_tells 0 t e in
    record { all = reading s.read q; is = s.is; room = omega (arith, s.count) }

module _ {A S X : Type 0} (put : ℕ → List A → S → S) (outcome : Told Counted → S → X) where
  -- a call over the lists `old` of n places, behind its sizes: t is read, and `left` tells what it leaves
  pub record Call (old : S) (n : ℕ) (t : Told (Reading (List A))) (call : X) : Type 0 where
    pub left : Told (Reading (List A)) → X
    pub is : call ≡ left (and_then t (room_for n))
    pub refused : (m : ℕ) (carried : List ℕ) → left (Refused m carried) ≡ outcome (Refused m carried) old
    pub accepted : (r : Reading (List A)) → length r.value ≤ n
        → left (Accepted r) ≡ outcome (Accepted (counted (length r.value) r.next)) (put 0 r.value old)

  module _ {old : S} {n : ℕ} {t : Told (Reading (List A))} {call : X} (c : Call old n t call) where
    pub refuses : {m : ℕ} {carried : List ℕ} → Refused m carried ≡ counts 0 t → outcome (Refused m carried) old ≡ call
    refuses {m} {carried} e =
        sym (c.is ∙ ap (λ (u : Told (Reading (List A))). c.left (and_then u (room_for n))) (refused_tells 0 t e) ∙ c.refused m carried)

    pub lacks_room : {j q : ℕ} → Accepted (counted j q) ≡ counts 0 t → n < j → outcome (room j) old ≡ call
    lacks_room {j} e h =
        let s = counted_tells 0 t e in
        let d : length s.read ≡ j = omega (arith, s.count) in
        let l : n < length s.read = omega arith in
        let f : and_then t (room_for n) ≡ room j = rw (s.is, lt-ltb _ _ l) (ap (λ (k : ℕ). room k) d) in
        sym (c.is ∙ ap c.left f ∙ c.refused _ _)

    pub reads : Suffices 0 t n → {answer : Told Counted} {new : S} → Stored put 0 t answer old new → outcome answer new ≡ call
    unfolding counts records_in
    reads h w =
        let r = h.all in
        let l : length r.value ≤ n = omega (arith, h.room) in
        let f : and_then t (room_for n) ≡ Accepted r = rw (h.is, le-ltb _ _ l) in
        ap₂ outcome
        (w.says ∙ ap (counts 0) h.is ∙ ap (λ (k : ℕ). Accepted (counted k r.next)) (zero-add (length r.value)))
        (w.lists ∙ ap (λ (u : Told (Reading (List A))). put 0 (records_in u) old) h.is)
        ∙ sym (c.is ∙ ap c.left f ∙ c.accepted r l)
