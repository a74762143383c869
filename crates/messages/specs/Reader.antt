-- Readers of records, over what a format reads. Assumes nothing.
use Rattle.std.specs.Prelude.{cond, List, ℕ, length, ltb}
use Rattle.bits.specs.Told.{Told, Accepted, and_then, room}
use Rattle.bits.specs.Field.{Reading, reading}

-- what was read, as records; a refusal stays as it is
abbrev pub as_records : {A B : Type 0} → (A → List B) → Told (Reading A) → Told (Reading (List B))
as_records flat t = and_then t (λ r. Accepted (reading (flat r.value) r.next))

-- Room, once the whole block was read, where there are more records than n
abbrev pub room_for : {A : Type 0} → ℕ → Reading (List A) → Told (Reading (List A))
room_for n r = cond (ltb n (length r.value)) (room (length r.value)) (Accepted r)
