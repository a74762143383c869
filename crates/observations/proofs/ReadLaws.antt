-- A call that reads message 1001: which answer is given when. Assumes nothing.
use mathlib.Core.Path.{◌≡◌, refl, sym, ap, ap₂, ◌∙◌}
use mathlib.Core.Bool.{true, false}
use mathlib.Core.List.{List}
use Prim.Native.Nat.{ℕ, ◌+◌, ◌-◌, ◌*◌, ◌≤◌, ◌<◌}
use native.Mathlib.Omega.{arith}
use borrow.Author.Tests.{lt-ltb, le-ltb}
use lib.ListN.{length}
use Rattle.std.specs.Prelude.{Result, Ok, Err, IsOk, IsErrAnd}
use Rattle.bits.specs.declared.refusal.Refusal.{Refusal}
use Rattle.bits.specs.Refusals.{number_of, carried_by}
use Rattle.bits.specs.Told.{Told, Accepted, Refused, size, room}
use Rattle.bits.specs.Outcome.{outcome}
use Rattle.bits.specs.Field.{Reading, reading}
use Rattle.formats.proofs.FixedLaws.{each_whole, each_cut_at}
use Rattle.observations.specs.declared.answer.Header.{Header}
use Rattle.observations.specs.declared.answer.Observation.{Observation}
use Rattle.observations.specs.Message1001.{Message, message, message1001, observation1001}
use Rattle.observations.specs.Lists.{Lists, places, even, filled}
use Rattle.observations.specs.Read1001.{seen, sizes, read1001}
use Rattle.observations.specs.Steps.{onward, Whole, told_row, observations_at, stored}
use Rattle.observations.proofs.MessageLaws.{observation_good, observation_fixed, observation_bits}
use Rattle.observations.proofs.ListLaws.{alike, stored_front, observations_are, observations_many}

-- ---- the first pass

-- a refusal that is passed on asks no more
pub front_passed : (s : List ℕ) (x : Result (Header × ℕ) Refusal) (e : Refusal) → IsErrAnd x (λ y. y ≡ e) → {t : Told (Reading Message)} → t ≡ Refused (number_of e) (carried_by e)
    → (t ≡ onward s x) × Whole s x
front_passed s (Ok f) e p q = absurd p
front_passed s (Err y) e p q = (q ∙ ap (λ z. Refused (number_of z) (carried_by z)) (sym p), tt)

module _ (s : List ℕ) (few : length s ≤ 1023) where
  -- an observation that is read lies within the data
  pub read_within : (p : ℕ) {o : Observation} {q : ℕ} → observation1001.reads s p ≡ Accepted (reading o q) → p + 58 ≤ length s * 8
  read_within p {o} {q} e =
      let t = observation_good.faithful.there s p (reading o q) e in
      let b = observation_bits o in
      omega (arith, b, t.ends, t.within (omega (arith, b)))

  -- the first observation that is cut, behind k that are there
  pub rows_cut : (h : Header) (n k : ℕ) → k < n → 64 + k * 58 ≤ length s * 8 → {m : ℕ} {carried : List ℕ} → observation1001.reads s (64 + k * 58) ≡ Refused m carried
      → onward s (Ok (h, n)) ≡ Refused m carried
  rows_cut h n k less l e = rw (each_cut_at observation1001 58 observation_fixed s few k n 64 less l e)

  -- all observations are there
  pub rows_there : (h : Header) (n : ℕ) → 64 + n * 58 ≤ length s * 8 → onward s (Ok (h, n)) ≡ Accepted (reading (message h (observations_at s n 64)) (64 + n * 58))
  rows_there h n l =
      rw (each_whole observation1001 58 observation_fixed s few n 64 l)
      (ap (λ (os : List Observation). Accepted (reading (message h os) (64 + n * 58))) (sym (observations_are s few n 64 l)))

  -- an observation of data that has them all is read
  pub row_there : (k n p : ℕ) → k < n → p + (n - k) * 58 ≤ length s * 8 → (x : Result (Observation × ℕ) Refusal) → told_row x ≡ observation1001.reads s p → IsOk x
  row_there k n p h l (Ok r) e = refl
  row_there k n p h l (Err r) e =
      let d = e ∙ observation_fixed.whole s p few (omega (arith, h, l)) in
      let z : ◌≡◌ {A = ℕ} 0 1 = cc in
      absurd (omega arith)

-- ---- the call

module _ (s : List ℕ) (l : Lists) where
  pub too_long : 1023 < length s → outcome size l ≡ read1001 s l
  unfolding read1001 sizes
  too_long h = rw (lt-ltb _ _ h)

  module _ (few : length s ≤ 1023) where
    pub uneven : even l ≡ false → outcome size l ≡ read1001 s l
    unfolding read1001 sizes
    uneven e = rw (le-ltb _ _ few, e)

    module _ (e : even l ≡ true) where
      pub refused : {n : ℕ} {carried : List ℕ} → message1001.reads s 0 ≡ Refused n carried → outcome (Refused n carried) l ≡ read1001 s l
      unfolding read1001 sizes
      refused r = rw (le-ltb _ _ few, e) (rw r)

      module _ {m : Message} {q : ℕ} (r : message1001.reads s 0 ≡ Accepted (reading m q)) where
        pub lacks_room : places l < length m.observations → outcome (room (length m.observations)) l ≡ read1001 s l
        unfolding read1001 sizes
        lacks_room h = rw (le-ltb _ _ few, e) (rw r (rw (lt-ltb _ _ h)))

        pub reads : length m.observations ≤ places l → outcome (Accepted (seen m.header (length m.observations) q)) (filled m.observations l) ≡ read1001 s l
        unfolding read1001 sizes
        reads h = rw (le-ltb _ _ few, e) (rw r (rw (le-ltb _ _ h)))

      -- as the two passes find it
      module _ (h : Header) (n : ℕ) (there : 64 + n * 58 ≤ length s * 8) (r : message1001.reads s 0 ≡ onward s (Ok (h, n))) where
        accepted : message1001.reads s 0 ≡ Accepted (reading (message h (observations_at s n 64)) (64 + n * 58))
        accepted = r ∙ rows_there s few h n there

        many : length (observations_at s n 64) ≡ n
        many = observations_many s few n 64 there

        pub call_room : places l < n → outcome (room n) l ≡ read1001 s l
        call_room p = let m = many in ap (λ (k : ℕ). outcome (room k) l) (sym m) ∙ lacks_room accepted (omega (arith, m, p))

        pub call_reads : n ≤ places l → (k : Lists) → k ≡ stored 0 (observations_at s n 64) l → outcome (Accepted (seen h n (64 + n * 58))) k ≡ read1001 s l
        call_reads p k d =
            let m = many in
            ap₂ (λ (j : ℕ) (x : Lists). outcome (Accepted (seen h j (64 + n * 58))) x) (sym m) (d ∙ stored_front (observations_at s n 64) l (alike l e) (omega (arith, m, p)))
            ∙ reads accepted (omega (arith, m, p))
