-- A call that writes message 1001: which answer is given when. Assumes nothing.
use mathlib.Core.Path.{◌≡◌, refl, sym, ap, ◌∙◌}
use mathlib.Core.Bool.{Bool, true, false}
use mathlib.Core.List.{List, [], ◌∷◌, ◌++◌}
use Prim.Native.Nat.{ℕ, suc, ◌+◌, ◌-◌, ◌*◌, ◌^◌, ◌≤◌, ◌<◌}
use native.Mathlib.Omega.{arith}
use borrow.Author.Tests.{lt-ltb, le-ltb, ltb-true}
use lib.ListN.{length}
use lib.Dec.{ltb}
use Rattle.bits.specs.Told.{Accepted, Refused, size, range, satellite, too_many, room}
use Rattle.bits.specs.Outcome.{Outcome, outcome}
use Rattle.bits.specs.Fields.{total, put_all}
use Rattle.bits.specs.Signed.{fits_unsigned, fits_twos}
use Rattle.formats.specs.Format.{fit_each, fields_each}
use Rattle.formats.specs.Written.{fine, first_fault}
use Rattle.formats.specs.Put.{RoomFor, IsPut}
use Rattle.bits.proofs.FieldsLaws.{total_none, total_next}
use Rattle.formats.proofs.NextLaws.{both_true}
use Rattle.formats.proofs.PutLaws.{Left, left_all, left_as, left_fits, left_fits_all, left_put}
use Rattle.formats.proofs.TimesLaws.{fields_next, fields_none, fit_each_lem, fit_each_none, each_fits}
use Rattle.formats.proofs.WrittenLaws.{fault_here, fault_later, faultless, run_room, run_put}
use Rattle.observations.specs.declared.answer.Header.{Header}
use Rattle.observations.specs.declared.answer.Observation.{Observation}
use Rattle.observations.specs.Message1001.{message, message1001, observation1001, header_fits}
use Rattle.observations.specs.Lists.{Lists, places, even, row_at, rows_from, rows}
use Rattle.observations.specs.Read1001.{sizes}
use Rattle.observations.specs.Write1001.{fault1001, write1001}
use Rattle.observations.specs.Steps.{AllFit, front_fields}
use Rattle.observations.proofs.MessageLaws.{message_bits}
use Rattle.observations.proofs.ListLaws.{rows_next, rows_all, rows_none, length_rows}

-- a number that reaches a bound is not below it
ltb_not : (b n : ℕ) → b ≤ n → ltb n b ≡ false
ltb_not b n h = le-ltb n b h

-- ---- one observation

module _ (i : ℕ) (o : Observation) where
  pub above_63 : 63 < o.satellite → satellite i ≡ fault1001 i o
  unfolding fault1001
  above_63 h = rw (lt-ltb _ _ h)

  module _ (a : o.satellite ≤ 63) where
    wide : observation1001.fits o ≡ false → range i ≡ fault1001 i o
    unfolding fault1001
    wide f = rw (le-ltb _ _ a, f)

    fits_6 : fits_unsigned 6 o.satellite ≡ true
    fits_6 = lt-ltb o.satellite (2 ^ 6) (omega (arith, a))

    pub wide_code : 2 ≤ o.code → range i ≡ fault1001 i o
    wide_code h = wide (rw (fits_6, ltb_not (2 ^ 1) o.code h))

    module _ (b : o.code ≤ 1) where
      fits_1 : fits_unsigned 1 o.code ≡ true
      fits_1 = lt-ltb o.code (2 ^ 1) (omega (arith, b))

      pub wide_pseudorange : 2 ^ 24 ≤ o.pseudorange → range i ≡ fault1001 i o
      wide_pseudorange h = wide (rw (fits_6, fits_1, ltb_not (2 ^ 24) o.pseudorange h))

      module _ (c : o.pseudorange ≤ 0xFFFFFF) where
        fits_24 : fits_unsigned 24 o.pseudorange ≡ true
        fits_24 = lt-ltb o.pseudorange (2 ^ 24) (omega (arith, c))

        pub wide_phase : fits_twos 20 o.phase ≡ false → range i ≡ fault1001 i o
        wide_phase f = wide (rw (fits_6, fits_1, fits_24, f))

        module _ (d : fits_twos 20 o.phase ≡ true) where
          pub wide_lock : 2 ^ 7 ≤ o.lock → range i ≡ fault1001 i o
          wide_lock h = wide (rw (fits_6, fits_1, fits_24, d, ltb_not (2 ^ 7) o.lock h))

          pub no_fault : o.lock ≤ 127 → fine ≡ fault1001 i o
          unfolding fault1001
          no_fault h = rw (le-ltb _ _ a, fits_6, fits_1, fits_24, d, lt-ltb o.lock (2 ^ 7) (omega (arith, h)))

-- what has no fault fits
fault_fits : (i : ℕ) (o : Observation) → fault1001 i o ≡ fine → observation1001.fits o ≡ true
unfolding fault1001
fault_fits i o e = go (ltb 63 o.satellite) (observation1001.fits o) refl refl e
  where
    go : (a b : Bool) → ltb 63 o.satellite ≡ a → observation1001.fits o ≡ b → fault1001 i o ≡ fine → b ≡ true
    go a true p q e = refl
    go true false p q e = let z : ◌≡◌ {A = ℕ} 0 1 = cc (rw p at e) in absurd (omega arith)
    go false false p q e = let z : ◌≡◌ {A = ℕ} 0 1 = cc (rw (p, q) at e) in absurd (omega arith)

pub all_fit : (i : ℕ) (os : List Observation) → first_fault fault1001 i os ≡ fine → AllFit os
all_fit i [] e = fit_each_none observation1001
all_fit i (o ∷ os) e =
    let f = faultless fault1001 i o os e in
    fit_each_lem observation1001 o os (fault_fits i o f.0) (all_fit (suc i) os f.1)

-- ---- the header

module _ (h : Header) where
  -- what fits is within its width
  pub record Within : Type 0 where
    pub station : h.station < 2 ^ 12
    pub epoch : h.epoch < 2 ^ 30
    pub synchronous : h.synchronous < 2 ^ 1
    pub smoothing : h.smoothing < 2 ^ 1
    pub interval : h.interval < 2 ^ 3

  pub within : header_fits h ≡ true → Within
  within f =
      let a = both_true (fits_unsigned 12 h.station) _ f in
      let b = both_true (fits_unsigned 30 h.epoch) _ a.1 in
      let c = both_true (fits_unsigned 1 h.synchronous) _ b.1 in
      let d = both_true (fits_unsigned 1 h.smoothing) (fits_unsigned 3 h.interval) c.1 in
      record {
        station = ltb-true _ _ a.0;
        epoch = ltb-true _ _ b.0;
        synchronous = ltb-true _ _ c.0;
        smoothing = ltb-true _ _ d.0;
        interval = ltb-true _ _ d.1;
      }

-- ---- row by row

module _ (l : Lists) (i n : ℕ) (h : i < n) (o : Observation) (r : o ≡ row_at l i) where
  left : rows_from l i (n - i) ≡ o ∷ rows_from l (i + 1) (n - (i + 1))
  left = rows_next l i n h ∙ ap (λ (x : Observation). x ∷ rows_from l (i + 1) (n - (i + 1))) (sym r)

  pub turn_fault : {m : ℕ} {carried : List ℕ} → Refused m carried ≡ fault1001 i o → first_fault fault1001 i (rows_from l i (n - i)) ≡ Refused m carried
  turn_fault e = ap (first_fault fault1001 i) left ∙ fault_here fault1001 i o (rows_from l (i + 1) (n - (i + 1))) (sym e)

  pub turn_fine : fine ≡ fault1001 i o → first_fault fault1001 i (rows_from l i (n - i)) ≡ first_fault fault1001 (i + 1) (rows_from l (i + 1) (n - (i + 1)))
  turn_fine e =
      let d : suc i ≡ i + 1 = omega arith in
      ap (first_fault fault1001 i) left
      ∙ fault_later fault1001 i o (rows_from l (i + 1) (n - (i + 1))) (sym e)
      ∙ ap (λ (j : ℕ). first_fault fault1001 j (rows_from l (i + 1) (n - (i + 1)))) d

  pub turn_fields : fields_each observation1001 (rows_from l i (n - i)) ≡ observation1001.fields o ++ fields_each observation1001 (rows_from l (i + 1) (n - (i + 1)))
  turn_fields = ap (fields_each observation1001) left ∙ fields_next observation1001 o (rows_from l (i + 1) (n - (i + 1)))

  pub turn_fits : AllFit (rows_from l i (n - i)) → (observation1001.fits o ≡ true) × AllFit (rows_from l (i + 1) (n - (i + 1)))
  turn_fits e = each_fits observation1001 o (rows_from l (i + 1) (n - (i + 1))) (sym (ap (fit_each observation1001) left) ∙ e)

pub no_fields : (l : Lists) (i n : ℕ) → n ≤ i → fields_each observation1001 (rows_from l i (n - i)) ≡ []
no_fields l i n h = ap (fields_each observation1001) (rows_none l i n h) ∙ fields_none observation1001

-- the fields of the message: those before the observations, and theirs
pub laid : (h : Header) (l : Lists) → message1001.fields (message h (rows l)) ≡ front_fields h (places l) ++ fields_each observation1001 (rows l)
laid h l = ap (λ (n : ℕ). front_fields h n ++ fields_each observation1001 (rows l)) (length_rows l 0 (places l))

-- ---- the call

-- the bits of the message
whole_bits : (h : Header) (l : Lists) → total (message1001.fields (message h (rows l))) ≡ 64 + places l * 58
whole_bits h l = message_bits h (rows l) ∙ ap (λ (n : ℕ). 64 + n * 58) (length_rows l 0 (places l))

module _ (s : List ℕ) (h : Header) (l : Lists) where
  pub too_long : 1023 < length s → outcome size s ≡ write1001 s h l
  unfolding write1001 sizes
  too_long p = rw (lt-ltb _ _ p)

  module _ (few : length s ≤ 1023) where
    pub uneven : even l ≡ false → outcome size s ≡ write1001 s h l
    unfolding write1001 sizes
    uneven e = rw (le-ltb _ _ few, e)

    module _ (e : even l ≡ true) where
      pub wide_header : header_fits h ≡ false → outcome (range 0) s ≡ write1001 s h l
      unfolding write1001 sizes
      wide_header f = rw (le-ltb _ _ few, e, f)

      module _ (f : header_fits h ≡ true) where
        pub faulty : {n : ℕ} {carried : List ℕ} → Refused n carried ≡ first_fault fault1001 0 (rows l) → outcome (Refused n carried) s ≡ write1001 s h l
        unfolding write1001 sizes
        faulty g = rw (le-ltb _ _ few, e, f, sym g)

        module _ (g : first_fault fault1001 0 (rows l) ≡ fine) where
          pub too_many_lem : 31 < places l → outcome (too_many 32) s ≡ write1001 s h l
          unfolding write1001 sizes
          too_many_lem p = rw (le-ltb _ _ few, e, f, g, lt-ltb _ _ p)

          module _ (m : places l ≤ 31) where
            pub lacks_room : length s * 8 < 64 + places l * 58 → outcome (room (64 + places l * 58)) s ≡ write1001 s h l
            unfolding write1001 sizes
            lacks_room p =
                let w = whole_bits h l in
                rw (le-ltb _ _ few, e, f, g, le-ltb _ _ m)
                (ap (λ (n : ℕ). outcome (room n) s) (sym w) ∙ sym (run_room s 0 (message1001.fields (message h (rows l))) (omega (arith, p, w))))

            pub puts : 64 + places l * 58 ≤ length s * 8 → outcome (Accepted (64 + places l * 58)) (put_all s 0 (message1001.fields (message h (rows l)))) ≡ write1001 s h l
            unfolding write1001 sizes
            puts p =
                let w = whole_bits h l in
                let z : 64 + places l * 58 ≡ 0 + total (message1001.fields (message h (rows l))) = omega (arith, w) in
                rw (le-ltb _ _ few, e, f, g, le-ltb _ _ m)
                (ap (λ (n : ℕ). outcome (Accepted n) (put_all s 0 (message1001.fields (message h (rows l))))) z ∙ sym (run_put s 0 (message1001.fields (message h (rows l))) (omega (arith, p, w))))

-- ---- part by part

pub all_left : (l : Lists) (n : ℕ) → AllFit (rows_from l 0 n) → AllFit (rows_from l 0 (n - 0))
all_left l n e = sym (ap (fit_each observation1001) (rows_all l n)) ∙ e

-- the fields before the observations end at bit 64
front_bits : (h : Header) (n : ℕ) → total (front_fields h n) ≡ 64
front_bits h n = rw (total_next, total_next, total_next, total_next, total_next, total_next, total_next, total_none)

pub front_ends : {s t : List ℕ} {h : Header} {n q : ℕ} → IsPut s 0 (front_fields h n) t q → IsPut s 0 (front_fields h n) t 64
front_ends {s} {t} {h} {n} {q} d = let b = front_bits h n in record { end = omega (arith, b); left = d.left }

module _ (s : List ℕ) (h : Header) (l : Lists) where
  begun : Left s 0 (message1001.fields (message h (rows l))) s 0 (front_fields h (places l) ++ fields_each observation1001 (rows l))
  begun = left_as (laid h l) (left_all s 0 (message1001.fields (message h (rows l))))

  module _ (few : length s ≤ 1023) (room : 64 + places l * 58 ≤ length s * 8) where
    fits : RoomFor s 0 (message1001.fields (message h (rows l)))
    fits = let w = whole_bits h l in record { few = few; within = omega (arith, w, room) }

    pub front_fits : RoomFor s 0 (front_fields h (places l))
    front_fits = left_fits (front_fields h (places l)) (fields_each observation1001 (rows l)) begun fits

    pub rows_fit : {t : List ℕ} → IsPut s 0 (front_fields h (places l)) t 64 → RoomFor t 64 (fields_each observation1001 (rows l))
    rows_fit d = left_fits_all (fields_each observation1001 (rows l)) (left_put (front_fields h (places l)) (fields_each observation1001 (rows l)) begun d) fits

  pub all_put : {t u : List ℕ} {o : Outcome ℕ (List ℕ)} {q : ℕ} → IsPut s 0 (front_fields h (places l)) t 64 → u ≡ put_all t 64 (fields_each observation1001 (rows l))
      → outcome (Accepted q) (put_all s 0 (message1001.fields (message h (rows l)))) ≡ o → outcome (Accepted q) u ≡ o
  all_put {t} {u} {o} {q} d e p =
      let m = left_put (front_fields h (places l)) (fields_each observation1001 (rows l)) begun d in
      ap (λ (x : List ℕ). outcome (Accepted q) x) (e ∙ sym m.rest) ∙ p
