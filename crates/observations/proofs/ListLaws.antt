-- Observations in the lent lists: stored place by place, and taken row by row. Assumes nothing.
use mathlib.Core.Path.{◌≡◌, refl, sym, ap, ap₂, ◌∙◌}
use mathlib.Core.Bool.{true}
use mathlib.Core.List.{List, [], ◌∷◌, map}
use Prim.Native.Nat.{ℕ, zero, suc, ◌+◌, ◌-◌, ◌*◌, ◌≤◌, ◌<◌}
use native.Mathlib.Nat.{zero-add}
use native.Mathlib.Omega.{arith}
use borrow.Author.Tests.{eqb-true}
use lib.IntN.{ℤ}
use mir.Syntax.{w32}
use mir.Val.{to_z, of_z}
use lib.ListN.{length, set, length-map, length-set}
use lib.Dec.{eqb}
use lib.Seq.{sets, sets-eq}
use Rattle.bits.specs.Told.{Accepted}
use Rattle.bits.specs.Field.{Reading, reading}
use Rattle.bits.specs.Onto.{onto}
use Rattle.bits.proofs.OntoLaws.{over_zero}
use Rattle.formats.proofs.NextLaws.{accepted_same, both_true}
use Rattle.formats.proofs.FixedLaws.{values, values_next, values_none, each_whole, length_values}
use Rattle.observations.specs.declared.answer.Observation.{Observation}
use Rattle.observations.specs.Message1001.{observation1001}
use Rattle.observations.specs.Lists.{Lists, lists, places, even_counts, even, row_at, rows_from, filled}
use Rattle.observations.specs.Steps.{observations_at, stored, Alike}
use Rattle.observations.proofs.MessageLaws.{observation_fixed, observation_good, row_phase}

-- ---- lists of one length

pub alike : (l : Lists) → even l ≡ true → Alike l (places l)
unfolding even_counts
alike l e =
    let n = places l in
    let a = both_true (eqb n (length l.codes)) _ e in
    let b = both_true (eqb n (length l.pseudoranges)) _ a.1 in
    let c = both_true (eqb n (length l.phases)) (eqb n (length l.locks)) b.1 in
    record {
      satellites = refl;
      codes = sym (eqb-true n _ a.0);
      pseudoranges = sym (eqb-true n _ b.0);
      phases = sym (eqb-true n _ c.0);
      locks = sym (eqb-true n _ c.1);
    }

-- ---- storing

-- the lists with one observation at place i
abbrev pub with : Lists → ℕ → Observation → Lists
with l i o =
    lists (set l.satellites i o.satellite) (set l.codes i o.code) (set l.pseudoranges i o.pseudorange) (set l.phases i o.phase) (set l.locks i o.lock)

-- an observation as the code hands it on
abbrev pub handed : Observation → Observation
handed o = record { satellite = o.satellite; code = o.code; pseudorange = o.pseudorange; phase = to_z w32 (of_z w32 o.phase); lock = o.lock }

pub stored_none : (i : ℕ) (l : Lists) → stored i [] l ≡ l
unfolding stored
stored_none i l = refl

pub stored_next : (i : ℕ) (o : Observation) (os : List Observation) (l : Lists) → stored i (o ∷ os) l ≡ stored (suc i) os (with l i o)
unfolding stored
stored_next i o os l = refl

front : {A : Type 0} (part : Observation → A) (os : List Observation) (l : List A) → length os ≤ length l → sets l 0 (map part os) ≡ onto (map part os) l
front part os l h = sets-eq (map part os) l 0 (rw (zero-add, length-map) h) ∙ over_zero (map part os) l

-- stored from the first place on, observations stand over the front
pub stored_front : (os : List Observation) (l : Lists) → Alike l (places l) → length os ≤ places l → stored 0 os l ≡ filled os l
unfolding stored
stored_front os l a h =
    rw (
      front (λ o. o.satellite) os l.satellites h,
      front (λ o. o.code) os l.codes (omega (arith, h, a.codes)),
      front (λ o. o.pseudorange) os l.pseudoranges (omega (arith, h, a.pseudoranges)),
      front (λ o. o.phase) os l.phases (omega (arith, h, a.phases)),
      front (λ o. o.lock) os l.locks (omega (arith, h, a.locks)),
    )

-- ---- the observations of data that has them all

module _ (s : List ℕ) (few : length s ≤ 1023) where
  abbrev here : ℕ → ℕ → List Observation
  here n p = values observation1001 58 observation_fixed s few n p

  pub observations_are : (n p : ℕ) → p + n * 58 ≤ length s * 8 → observations_at s n p ≡ here n p
  unfolding observations_at
  observations_are n p l = rw (each_whole observation1001 58 observation_fixed s few n p l)

  pub observations_many : (n p : ℕ) → p + n * 58 ≤ length s * 8 → length (observations_at s n p) ≡ n
  observations_many n p l = ap length (observations_are n p l) ∙ length_values observation1001 58 observation_fixed s few n p

  -- the next of those that are left
  pub observations_next : (n k p : ℕ) {o : Observation} {q : ℕ} → k < n → p + (n - k) * 58 ≤ length s * 8 → observation1001.reads s p ≡ Accepted (reading o q)
      → (q ≡ p + 58) × (observations_at s (n - k) p ≡ o ∷ observations_at s (n - (k + 1)) q)
  observations_next n k p {o} {q} h l e =
      let m = n - (k + 1) in
      let d : n - k ≡ suc m = omega (arith, h) in
      let w = observation_fixed.whole s p few (omega (arith, h, l)) in
      let x = accepted_same (sym w ∙ e) in
      let v : observation_fixed.value s p ≡ o = ap (λ (r : Reading Observation). r.value) x in
      let z : p + 58 ≡ q = ap (λ (r : Reading Observation). r.next) x in (
        sym z,
        observations_are (n - k) p l
            ∙ ap (λ (j : ℕ). here j p) d
            ∙ values_next observation1001 58 observation_fixed s few m p
            ∙ ap₂ (λ (y : Observation) (r : ℕ). y ∷ here m r) v z
            ∙ ap (λ (os : List Observation). o ∷ os) (sym (observations_are m q (omega (arith, h, l, z)))),
      )

  pub observations_none : (n k p : ℕ) → n ≤ k → p ≤ length s * 8 → observations_at s (n - k) p ≡ []
  observations_none n k p h l =
      let d : n - k ≡ 0 = omega (arith, h) in
      observations_are (n - k) p (omega (arith, h, l)) ∙ ap (λ (j : ℕ). here j p) d ∙ values_none observation1001 58 observation_fixed s few p

  -- a turn of the loop that stores
  pub turn_ends : (n k p : ℕ) {o : Observation} {q : ℕ} → k < n → p + (n - k) * 58 ≤ length s * 8 → observation1001.reads s p ≡ Accepted (reading o q)
      → q + (n - (k + 1)) * 58 ≤ length s * 8
  turn_ends n k p h l e = let z = (observations_next n k p h l e).0 in omega (arith, h, l, z)

  pub stored_turn : (n k p : ℕ) {o : Observation} {q : ℕ} → k < n → p + (n - k) * 58 ≤ length s * 8 → observation1001.reads s p ≡ Accepted (reading o q)
      → (l : Lists) → stored k (observations_at s (n - k) p) l ≡ stored (k + 1) (observations_at s (n - (k + 1)) q) (with l k (handed o))
  stored_turn n k p {o} {q} h r e l =
      let w = row_phase o (observation_good.faithful.there s p (reading o q) e).fitting in
      let d : suc k ≡ k + 1 = omega arith in
      let os = observations_at s (n - (k + 1)) q in
      ap (λ (x : List Observation). stored k x l) (observations_next n k p h r e).1
      ∙ stored_next k o os l
      ∙ ap₂ (λ (j : ℕ) (z : ℤ). stored j os (with l k (record { satellite = o.satellite; code = o.code; pseudorange = o.pseudorange; phase = z; lock = o.lock }))) d (sym w)

  -- the end of it
  pub stored_done : (n k p : ℕ) → n ≤ k → p ≤ length s * 8 → (l : Lists) → stored k (observations_at s (n - k) p) l ≡ l
  stored_done n k p h r l = ap (λ (os : List Observation). stored k os l) (observations_none n k p h r) ∙ stored_none k l

-- lists of one length keep it
pub alike_set : (l : Lists) (n k : ℕ) (o : Observation) → Alike l n → Alike (with l k o) n
alike_set l n k o a =
    record {
      satellites = length-set l.satellites k o.satellite ∙ a.satellites;
      codes = length-set l.codes k o.code ∙ a.codes;
      pseudoranges = length-set l.pseudoranges k o.pseudorange ∙ a.pseudoranges;
      phases = length-set l.phases k o.phase ∙ a.phases;
      locks = length-set l.locks k o.lock ∙ a.locks;
    }

-- ---- the rows of lists

pub rows_next : (l : Lists) (i n : ℕ) → i < n → rows_from l i (n - i) ≡ row_at l i ∷ rows_from l (i + 1) (n - (i + 1))
unfolding rows_from
rows_next l i n h =
    let m = n - (i + 1) in
    let d : n - i ≡ suc m = omega (arith, h) in
    let e : suc i ≡ i + 1 = omega arith in
    ap (rows_from l i) d ∙ ap (λ (j : ℕ). row_at l i ∷ rows_from l j m) e

pub rows_all : (l : Lists) (n : ℕ) → rows_from l 0 n ≡ rows_from l 0 (n - 0)
rows_all l n = let d : n ≡ n - 0 = omega arith in ap (rows_from l 0) d

pub rows_none : (l : Lists) (i n : ℕ) → n ≤ i → rows_from l i (n - i) ≡ []
unfolding rows_from
rows_none l i n h = let d : n - i ≡ 0 = omega (arith, h) in ap (rows_from l i) d

pub length_rows : (l : Lists) (i n : ℕ) → length (rows_from l i n) ≡ n
unfolding rows_from
length_rows l i zero = refl
length_rows l i (suc n) = ap suc (length_rows l (suc i) n)
