-- What private functions of the code compute. No promise to a caller rests on this file. Assumes nothing.
use Rattle.std.specs.Prelude.{◌≡◌, true, List, [], ◌∷◌, map, ℕ, ◌+◌, ◌*◌, ◌≤◌, length, Result, Ok, Err}
use Rattle.std.proofs.lemmas.List.Edits.{sets}
use Rattle.bits.specs.Told.{Told, Accepted, Refused, and_then}
use Rattle.bits.specs.Refusals.{told, number_of, carried_by}
use Rattle.bits.specs.declared.refusal.Refusal.{Refusal}
use Rattle.bits.specs.Field.{Reading, reading}
use Rattle.bits.specs.Fields.{Field, bits}
use Rattle.formats.specs.Format.{times, fit_each}
use Rattle.formats.specs.Written.{fine, first_fault}
use Rattle.observations.specs.Message1001.{Message, message, observation1001, header_fits}
use Rattle.observations.specs.Lists.{Lists, lists, places, even, rows}
use Rattle.observations.specs.Write1001.{fault1001}
use Rattle.observations.specs.declared.answer.Header.{Header}
use Rattle.observations.specs.declared.answer.Observation.{Observation}

-- ---- reading one observation

abbrev pub told_row : Result (Observation × ℕ) Refusal → Told (Reading Observation)
told_row = told (λ r. reading r.0 r.1)

-- ---- the first pass

-- the message, from what its front tells: the header, and how many observations there are
abbrev pub onward : List ℕ → Result (Header × ℕ) Refusal → Told (Reading Message)
onward s (Ok f) = and_then ((times f.1 observation1001).reads s 64) (λ os. Accepted (reading (message f.0 os.value) os.next))
onward s (Err r) = Refused (number_of r) (carried_by r)

-- the header ends at bit 64, and the count has five bits
abbrev pub Begun : List ℕ → Result (Header × ℕ) Refusal → Type 0
Begun s (Ok f) = (f.1 ≤ 31) × (64 ≤ length s * 8)
Begun s (Err r) = Unit

-- and all observations are there
abbrev pub Whole : List ℕ → Result (Header × ℕ) Refusal → Type 0
Whole s (Ok f) = (f.1 ≤ 31) × (64 + f.1 * 58 ≤ length s * 8)
Whole s (Err r) = Unit

-- ---- the second pass

-- the n observations from bit p on, none where they are not all there
abbrev pub found : Told (Reading (List Observation)) → List Observation
found (Accepted r) = r.value
found (Refused n carried) = []

unfoldable pub observations_at : List ℕ → ℕ → ℕ → List Observation
observations_at s n p = found ((times n observation1001).reads s p)

-- the lists with observations stored from place i on
unfoldable pub stored : ℕ → List Observation → Lists → Lists
stored i os l =
    lists
    (sets l.satellites i (map (λ o. o.satellite) os))
    (sets l.codes i (map (λ o. o.code) os))
    (sets l.pseudoranges i (map (λ o. o.pseudorange) os))
    (sets l.phases i (map (λ o. o.phase) os))
    (sets l.locks i (map (λ o. o.lock) os))

-- lists of one length
pub record Alike (l : Lists) (n : ℕ) : Type 0 where
  pub satellites : length l.satellites ≡ n
  pub codes : length l.codes ≡ n
  pub pseudoranges : length l.pseudoranges ≡ n
  pub phases : length l.phases ≡ n
  pub locks : length l.locks ≡ n

-- what the second pass asks: data within their limit, all observations there, places for them in lists of one length
pub record Ready (s : List ℕ) (n : ℕ) (l : Lists) : Type 0 where
  pub few : length s ≤ 1023
  pub there : 64 + n * 58 ≤ length s * 8
  pub room : n ≤ places l
  pub alike : Alike l (places l)

-- ---- writing

-- no fault, or the first
abbrev pub told_fault : Result (Unit {0}) Refusal → Told Unit
told_fault = told (λ u. u)

-- no observation has a fault
abbrev pub AllFit : List Observation → Type 0
AllFit os = fit_each observation1001 os ≡ true

-- what is known once nothing before TooMany is refused
pub record Sound (s : List ℕ) (h : Header) (l : Lists) : Type 0 where
  pub few : length s ≤ 1023
  pub same : even l ≡ true
  pub header : header_fits h ≡ true
  pub faultless : first_fault fault1001 0 (rows l) ≡ fine

-- the fields before the observations
abbrev pub front_fields : Header → ℕ → List Field
front_fields h n =
    bits 12 1001 ∷ bits 12 h.station ∷ bits 30 h.epoch ∷ bits 1 h.synchronous ∷ bits 5 n ∷ bits 1 h.smoothing ∷ bits 3 h.interval ∷ []
