-- Reading message 1001. Assumes nothing.
use Rattle.std.specs.Prelude.{cond, not, ℕ, length, ltb, List}
use Rattle.bits.specs.Told.{Told, Accepted, and_then, size, room}
use Rattle.bits.specs.Outcome.{Outcome, outcome, refusing}
use Rattle.bits.specs.Field.{Reading}
use Rattle.formats.specs.Written.{fine}
use Rattle.observations.specs.declared.answer.Header.{Header}
use Rattle.observations.specs.Message1001.{Message, message1001}
use Rattle.observations.specs.Lists.{Lists, places, even, filled}

-- what a reader answers where it accepts: the header, how many observations there are, and the end bit
pub record Seen : Type 0 where
  pub header : Header
  pub count : ℕ
  pub end : ℕ

abbrev pub seen : Header → ℕ → ℕ → Seen
seen h n q = record { header = h; count = n; end = q }

-- Size of the data, Size of unequal lists
unfoldable pub sizes : List ℕ → Lists → Told Unit
sizes s l = cond (ltb 1023 (length s)) size (cond (not (even l)) size fine)

-- Room, once the whole message was read, where there are more observations than n
abbrev pub room_for : ℕ → Reading Message → Told (Reading Message)
room_for n r = cond (ltb n (length r.value.observations)) (room (length r.value.observations)) (Accepted r)

-- a call that reads the message into the lent lists: the sizes; Short of the number, Kind, Short, in the order of the wire; Room. The first places take the observations, and later places stay.
unfoldable pub read1001 : List ℕ → Lists → Outcome Seen Lists
read1001 s l =
    refusing l (sizes s l) (λ u.
    refusing l (and_then (message1001.reads s 0) (room_for (places l))) (λ r.
    outcome (Accepted (seen r.value.header (length r.value.observations) r.next)) (filled r.value.observations l)))
