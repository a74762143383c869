-- What an accepted answer tells of the steps that led to it. Assumes nothing.
use mathlib.Core.Path.{◌≡◌, sym, ap, ◌∙◌}
use mathlib.Core.List.{List, map}
use Prim.Native.Nat.{ℕ, ◌+◌, ◌*◌, ◌≤◌}
use native.Mathlib.Omega.{arith}
use lib.ListN.{length, take, length-map}
use lib.Seq.{take_at}
use lib.Dec.{ltb}
use Rattle.bits.specs.Told.{Told, Accepted, Refused, and_then}
use Rattle.bits.specs.Outcome.{Outcome, refusing}
use Rattle.bits.specs.Onto.{onto}
use Rattle.bits.specs.Field.{field, Reading, reading, read_by}
use Rattle.bits.proofs.ReadLaws.{read_tells}
use Rattle.formats.proofs.NextLaws.{then_accepted}
use Rattle.formats.proofs.WrittenLaws.{not_refused}
use Rattle.messages.specs.Reader.{as_records, room_for}
use Rattle.messages.specs.Records.{Counted, counted}

-- records that were read are those of a value that was
pub read_as : {A B : Type 0} (flat : A → List B) (t : Told (Reading A)) {xs : List B} {q : ℕ} → as_records flat t ≡ Accepted (reading xs q) → (a : A) × (t ≡ Accepted (reading a q)) × (flat a ≡ xs)
read_as {A} {B} flat (Accepted r) {xs} {q} e =
    let i : reading (flat r.value) r.next ≡ reading xs q = cc in
    (r.value, ap (λ (y : Reading (List B)). Accepted (reading r.value y.next)) i, ap (λ (y : Reading (List B)). y.value) i)
read_as flat (Refused n carried) e = let z : ◌≡◌ {A = ℕ} 0 1 = cc in absurd (omega arith)

-- records that had room were read
pub had_room : {A : Type 0} (t : Told (Reading (List A))) (m : ℕ) {r : Reading (List A)} → and_then t (room_for m) ≡ Accepted r → t ≡ Accepted r
had_room t m e = let x = then_accepted t (room_for m) e in x.1 ∙ (not_refused 8 _ (ltb m (length x.0.value)) _ x.2).1

-- an accepted call took n records, up to bit q, and filled the lent lists with them
pub record Reads {A S : Type 0} (came : S) (taken : Told (Reading (List A))) (filled : Reading (List A) → Outcome Counted S) (n q : ℕ) : Type 0 where
  pub records : List A
  pub is : taken ≡ Accepted (reading records q)
  pub count : length records ≡ n
  pub lists : refusing came taken filled ≡ filled (reading records q)

pub call_reads : {A S : Type 0} (came : S) (taken : Told (Reading (List A))) (filled : Reading (List A) → Outcome Counted S)
    → ((r : Reading (List A)) → (filled r).answer ≡ Accepted (counted (length r.value) r.next)) → {n q : ℕ} → (refusing came taken filled).answer ≡ Accepted (counted n q)
    → Reads came taken filled n q
call_reads came (Accepted r) filled says {n} {q} e =
    let i : counted (length r.value) r.next ≡ counted n q = cc (says r) in
    let j = ap (λ (c : Counted). reading r.value c.end) i in
    record { records = r.value; is = ap Accepted j; count = ap (λ (c : Counted). c.count) i; lists = ap filled j }
call_reads came (Refused m carried) filled says e = let z : ◌≡◌ {A = ℕ} 0 1 = cc in absurd (omega arith)

-- and their first n places hold a part of each
pub first_places : {A B : Type 0} (part : A → B) (xs : List A) (l : List B) (n : ℕ) → length xs ≡ n → take n (onto (map part xs) l) ≡ map part xs
first_places part xs l n e = take_at (map part xs) _ n (length-map xs part ∙ e)

module _ {A B : Type 0} (meaning : ℕ → A) (s : List ℕ) (p w : ℕ) (f : Reading A → Told B) where
  -- a field was read, and what came behind it was accepted
  pub record FieldThen (b : B) : Type 0 where
    pub few : length s ≤ 1023
    pub within : p + w ≤ length s * 8
    pub then : f (reading (meaning (field s p w)) (p + w)) ≡ Accepted b

  pub field_accepted : {b : B} → and_then (read_by meaning s p w) f ≡ Accepted b → FieldThen b
  field_accepted e =
      let r = then_accepted (read_by meaning s p w) f e in
      let t = read_tells meaning s p w r.1 in
      record { few = t.few; within = t.within; then = ap f (sym t.is) ∙ r.2 }
