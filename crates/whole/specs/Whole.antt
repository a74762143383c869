-- What reading a whole message answers. Assumes nothing.
use Rattle.std.specs.Prelude.{cond, List, ℕ, ◌+◌, eqb, ltb, get_or}
use Rattle.bits.specs.Told.{Told, Accepted, Refused, room}
use Rattle.bits.specs.Outcome.{Outcome, outcome}
use Rattle.bits.specs.Fields.{Field, put_all}
use Rattle.messages.specs.Records.{Counted}

-- the header, how many records there are, and the end bit
pub record Whole (H : Type 0) : Type 0 where
  pub header : H
  pub count : ℕ
  pub end : ℕ

abbrev pub whole : {H : Type 0} → H → ℕ → ℕ → Whole H
whole h n q = record { header = h; count = n; end = q }

-- what the block answers, with the header of its message; a refusal stays as it is
abbrev pub headed : {H : Type 0} → H → Told Counted → Told (Whole H)
headed h (Accepted c) = Accepted (whole h c.count c.end)
headed h (Refused n carried) = Refused n carried

-- n bits more, of what a block can have; a block has far fewer than 2 ^ 32 bits
abbrev pub raised : ℕ → ℕ → ℕ
raised n k = cond (ltb 0xFFFFFFFF k) k (n + k)

-- a refusal of the block's writer, n bits behind the message's start: Room carries the bits of the whole message, any other stays as it is
abbrev pub behind : ℕ → ℕ → List ℕ → Told ℕ
behind n k carried = cond (eqb k 8) (room (raised n (get_or carried 0 0))) (Refused k carried)

-- what the block's writer answers and leaves, n bits behind the message's start, with the fields fs of the front before it
abbrev pub before : ℕ → List Field → Told ℕ → List ℕ → Outcome ℕ (List ℕ)
before n fs (Accepted q) t = outcome (Accepted q) (put_all t 0 fs)
before n fs (Refused k carried) t = outcome (behind n k carried) t

abbrev pub fronted : ℕ → List Field → Outcome ℕ (List ℕ) → Outcome ℕ (List ℕ)
fronted n fs o = before n fs o.answer o.areas
