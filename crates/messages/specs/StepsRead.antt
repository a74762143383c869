-- What the two passes of a block's reader compute. No promise to a caller rests on this file. Assumes nothing.
use Rattle.std.specs.Prelude.{◌≡◌, List, [], ◌++◌, map, ℕ, zero, suc, ◌+◌, ◌≤◌, length, ℤ}
use Rattle.std.proofs.lemmas.List.Edits.{sets}
use Rattle.bits.specs.Told.{Told, Accepted, Refused, and_then}
use Rattle.bits.specs.Field.{Reading, reading}
use Rattle.messages.specs.Records.{Rec1059, satellite_of, signal_of1059, bias_of1059, Rec1230, signal_of1230, bias_of1230, Counted, counted}

-- ---- one behind the other

-- the records xs, and behind them what is read
abbrev pub before : {A : Type 0} → List A → Told (Reading (List A)) → Told (Reading (List A))
before xs r = and_then r (λ ys. Accepted (reading (xs ++ ys.value) ys.next))

-- n times f, one behind the other, from bit p on
unfoldable pub many : {A : Type 0} → (ℕ → Told (Reading (List A))) → ℕ → ℕ → Told (Reading (List A))
many f zero p = Accepted (reading [] p)
many f (suc n) p = and_then (f p) (λ xs. before xs.value (many f n xs.next))

-- ---- the two passes

module _ {A : Type 0} where
  -- the first pass, behind i records: how many there are with those that are read, and the bit behind them
  unfoldable pub counts : ℕ → Told (Reading (List A)) → Told Counted
  counts i t = and_then t (λ r. Accepted (counted (i + length r.value) r.next))

  -- the records that are read, none of a refusal
  unfoldable pub records_in : Told (Reading (List A)) → List A
  records_in (Accepted r) = r.value
  records_in (Refused n carried) = []

  -- what the second pass rests on: t is accepted, and n places suffice for its records from place i on
  pub record Suffices (i : ℕ) (t : Told (Reading (List A))) (n : ℕ) : Type 0 where
    pub all : Reading (List A)
    pub is : t ≡ Accepted all
    pub room : i + length all.value ≤ n

  -- the second pass, behind i records, over lent lists into which `put` stores records from a place on: what it answers, and the lists as it leaves them
  pub record Stored {S : Type 0} (put : ℕ → List A → S → S) (i : ℕ) (t : Told (Reading (List A))) (answer : Told Counted) (old new : S) : Type 0 where
    pub says : answer ≡ counts i t
    pub lists : new ≡ put i (records_in t) old

-- ---- the lent lists of message 1059

-- satellites, signals and raw biases
pub record Lists1059 : Type 0 where
  pub satellites : List ℕ
  pub signals : List ℕ
  pub biases : List ℤ

-- three lists as one
abbrev pub lists1059 : List ℕ → List ℕ → List ℤ → Lists1059
lists1059 sats gs zs = record { satellites = sats; signals = gs; biases = zs }

-- the lists with records stored from place i on
unfoldable pub put1059 : ℕ → List Rec1059 → Lists1059 → Lists1059
put1059 i rs l =
    lists1059 (sets l.satellites i (map satellite_of rs)) (sets l.signals i (map signal_of1059 rs)) (sets l.biases i (map bias_of1059 rs))

-- what the second pass asks: data within their limit, places for the records, lists of one length
pub record Ready1059 (s : List ℕ) (i : ℕ) (t : Told (Reading (List Rec1059))) (sats gs : List ℕ) (zs : List ℤ) : Type 0 where
  pub few : length s ≤ 1023
  pub suffices : Suffices i t (length sats)
  pub signals : length gs ≡ length sats
  pub biases : length zs ≡ length sats

-- ---- the lent lists of message 1230

-- signals and raw biases
pub record Lists1230 : Type 0 where
  pub signals : List ℕ
  pub biases : List ℤ

-- two lists as one
abbrev pub lists1230 : List ℕ → List ℤ → Lists1230
lists1230 gs zs = record { signals = gs; biases = zs }

-- the lists with records stored from place i on
unfoldable pub put1230 : ℕ → List Rec1230 → Lists1230 → Lists1230
put1230 i rs l = lists1230 (sets l.signals i (map signal_of1230 rs)) (sets l.biases i (map bias_of1230 rs))

-- what the second pass asks: data within their limit, places for the records, lists of one length
pub record Ready1230 (s : List ℕ) (i : ℕ) (t : Told (Reading (List Rec1230))) (gs : List ℕ) (zs : List ℤ) : Type 0 where
  pub few : length s ≤ 1023
  pub suffices : Suffices i t (length gs)
  pub biases : length zs ≡ length gs
