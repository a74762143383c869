-- Which answer writing the 1059 block gives: by its sizes and faults, and of records without a fault by the counts of their satellites. Assumes nothing.
use mathlib.Core.Path.{◌≡◌, refl, sym, ap, ap₂, ◌∙◌}
use mathlib.Core.List.{List, [], ◌∷◌, ◌++◌, append-nil}
use mathlib.Core.Bool.{true, false}
use Prim.Native.Nat.{ℕ, ◌≤◌, ◌<◌, ◌+◌, ◌*◌}
use native.Mathlib.Omega.{arith}
use borrow.Author.Tests.{lt-ltb, le-ltb, eq-eqb, ne_eqb}
use lib.ListN.{length, get_or}
use lib.IntN.{ℤ}
use Rattle.bits.specs.Told.{Told, Refused, size, too_many, Accepted, room, kind}
use Rattle.bits.specs.Outcome.{outcome}
use Rattle.bits.specs.Fields.{bits, total, put_all}
use Rattle.messages.specs.Records.{Rec1059, records1059}
use Rattle.messages.specs.Signals1059.{is_edition, known_edition}
use Rattle.messages.specs.Writer.{first_repeat, write_run}
use Rattle.messages.specs.Write1059.{fault1059, same_pair, crowded, present, fields1059, refused_records1059, refused1059, write1059}
use Rattle.messages.specs.Layout1059.{of_satellite}
use Rattle.messages.specs.StepsWrite1059.{satellites_from, refused_faultless, write_faultless, write_known, Faultless, Linked, crowded_in, present_in}
use Rattle.formats.specs.Put.{RoomFor, IsPut}
use Rattle.formats.proofs.PutLaws.{Left, left_all, left_as, left_fits, left_put, left_none}
use Rattle.formats.specs.Written.{fine, first_fault}
use Rattle.messages.proofs.WriterLaws.{run_refused, run_put, run_room}
use Rattle.messages.proofs.LinkLaws.{count_records}
use Rattle.messages.proofs.Layout1059Laws.{fields_laid}
use Rattle.messages.proofs.InOrderLaws.{low_records, length_records}
use Rattle.messages.proofs.CrowdLaws.{counts_fit, crowded_is, present_is, bits_is}

-- ---- records without a fault

module _ (s : List ℕ) (p : ℕ) (rs : List Rec1059) where
  some_crowded : {k : ℕ} {carried : List ℕ} → crowded 0 64 rs ≡ Refused k carried → outcome (Refused k carried) s ≡ write_faultless s p rs
  unfolding write_faultless refused_faultless
  some_crowded e = run_refused (refused_faultless rs) s p (fields1059 rs) (rw e)

  module _ (c : crowded 0 64 rs ≡ fine) where
    all_present : present 0 64 rs ≡ 64 → outcome (too_many 64) s ≡ write_faultless s p rs
    unfolding write_faultless refused_faultless
    all_present e = run_refused (refused_faultless rs) s p (fields1059 rs) (rw (c, eq-eqb (present 0 64 rs) 64 e))

    module _ (n : present 0 64 rs ≡ 64 → ⊥) where
      some_repeat : {k : ℕ} {carried : List ℕ} → first_repeat same_pair 0 [] rs ≡ Refused k carried → outcome (Refused k carried) s ≡ write_faultless s p rs
      unfolding write_faultless refused_faultless
      some_repeat e = run_refused (refused_faultless rs) s p (fields1059 rs) (rw (c, ne_eqb (present 0 64 rs) 64 n) e)

      nothing : first_repeat same_pair 0 [] rs ≡ fine → refused_faultless rs ≡ fine
      unfolding refused_faultless
      nothing e = rw (c, ne_eqb (present 0 64 rs) 64 n) e

-- ---- records without a fault, by the counts of their satellites

module _ (s : List ℕ) (p : ℕ) (sats gs : List ℕ) (zs : List ℤ) (d : Faultless sats gs zs) (hs ls cs : List ℕ) (l : Linked sats hs ls cs 0) where
  counts : (a : ℕ) → a < 64 → get_or cs a 0 ≡ length (of_satellite a (records1059 sats gs zs))
  counts a h = l.count a h ∙ sym (count_records a sats gs zs d.signals d.biases)

  crowd : crowded 0 64 (records1059 sats gs zs) ≡ crowded_in 0 cs
  crowd = crowded_is (records1059 sats gs zs) cs l.all_counts counts 64 0 refl

  pub sound_crowded : {k : ℕ} {carried : List ℕ} → crowded_in 0 cs ≡ Refused k carried → outcome (Refused k carried) s ≡ write_faultless s p (records1059 sats gs zs)
  sound_crowded e = some_crowded s p (records1059 sats gs zs) (crowd ∙ e)

  module _ (none : crowded_in 0 cs ≡ fine) (m : ℕ) (em : m ≡ present_in cs) where
    seen : present 0 64 (records1059 sats gs zs) ≡ m
    seen = present_is (records1059 sats gs zs) cs l.all_counts counts 64 0 refl ∙ sym em

    pub sound_all : m ≡ 64 → outcome (too_many 64) s ≡ write_faultless s p (records1059 sats gs zs)
    sound_all e = all_present s p (records1059 sats gs zs) (crowd ∙ none) (seen ∙ e)

    pub sound_counts : (a : ℕ) → a < 64 → get_or cs a 0 < 32
    sound_counts a b = counts_fit 0 cs none a (omega (arith, l.all_counts))

    module _ (n : m ≡ 64 → ⊥) where
      pub sound_repeat : {k : ℕ} {carried : List ℕ} → first_repeat same_pair 0 [] (records1059 sats gs zs) ≡ Refused k carried
          → outcome (Refused k carried) s ≡ write_faultless s p (records1059 sats gs zs)
      sound_repeat e = some_repeat s p (records1059 sats gs zs) (crowd ∙ none) (λ e. n (sym seen ∙ e)) e

      module _ (single : first_repeat same_pair 0 [] (records1059 sats gs zs) ≡ fine) where
        block : total (fields1059 (records1059 sats gs zs)) ≡ 6 + m * 11 + length sats * 19
        block = omega (arith, bits_is (records1059 sats gs zs) (low_records sats gs zs d.low), seen, length_records sats gs zs d.signals d.biases)

        clear : refused_faultless (records1059 sats gs zs) ≡ fine
        clear = nothing s p (records1059 sats gs zs) (crowd ∙ none) (λ e. n (sym seen ∙ e)) single

        laid : fields1059 (records1059 sats gs zs) ≡ (bits 6 m ∷ []) ++ satellites_from 0 64 (records1059 sats gs zs)
        laid = fields_laid (records1059 sats gs zs) ∙ ap (λ (k : ℕ). bits 6 k ∷ satellites_from 0 64 (records1059 sats gs zs)) seen

        begun : Left s p (fields1059 (records1059 sats gs zs)) s p ((bits 6 m ∷ []) ++ satellites_from 0 64 (records1059 sats gs zs))
        begun = left_as laid (left_all s p (fields1059 (records1059 sats gs zs)))

        pub sound_room : length s * 8 < p + (6 + m * 11 + length sats * 19) → outcome (room (6 + m * 11 + length sats * 19)) s ≡ write_faultless s p (records1059 sats gs zs)
        unfolding write_faultless
        sound_room o =
            ap (λ (k : ℕ). outcome (room k) s) (sym block)
            ∙ run_room (refused_faultless (records1059 sats gs zs)) s p (fields1059 (records1059 sats gs zs)) clear (omega (arith, block))

        module _ (few : length s ≤ 1023) (o : p + (6 + m * 11 + length sats * 19) ≤ length s * 8) where
          whole : RoomFor s p (fields1059 (records1059 sats gs zs))
          whole = record { few = few; within = omega (arith, block) }

          pub sound_first : RoomFor s p (bits 6 m ∷ [])
          sound_first = left_fits (bits 6 m ∷ []) (satellites_from 0 64 (records1059 sats gs zs)) begun whole

          module _ (t : List ℕ) (q : ℕ) (did : IsPut s p (bits 6 m ∷ []) t q) where
            rest : Left s p (fields1059 (records1059 sats gs zs)) t q (satellites_from 0 64 (records1059 sats gs zs) ++ [])
            rest = left_as (sym (append-nil (satellites_from 0 64 (records1059 sats gs zs)))) (left_put (bits 6 m ∷ []) (satellites_from 0 64 (records1059 sats gs zs)) begun did)

            pub sound_rest : RoomFor t q (satellites_from 0 64 (records1059 sats gs zs))
            sound_rest = left_fits (satellites_from 0 64 (records1059 sats gs zs)) [] rest whole

            pub sound_put : (u : List ℕ) → u ≡ put_all t q (satellites_from 0 64 (records1059 sats gs zs))
                → outcome (Accepted (p + (6 + m * 11 + length sats * 19))) u ≡ write_faultless s p (records1059 sats gs zs)
            unfolding write_faultless
            sound_put u e =
                ap₂ (λ (k : ℕ) (x : List ℕ). outcome (Accepted (p + k)) x) (sym block)
                (left_none (left_put (satellites_from 0 64 (records1059 sats gs zs)) [] rest (record { end = refl; left = e }))).left
                ∙ sym (run_put (refused_faultless (records1059 sats gs zs)) s p (fields1059 (records1059 sats gs zs)) clear whole.within)

-- ---- the call

module _ (edition : ℕ) (s : List ℕ) (p : ℕ) (sats gs : List ℕ) (zs : List ℤ) where
  refusal : {n : ℕ} {carried : List ℕ} → refused1059 edition (length s) sats gs zs ≡ Refused n carried → outcome (Refused n carried) s ≡ write_known edition s p sats gs zs
  unfolding write_known
  refusal e = run_refused (refused1059 edition (length s) sats gs zs) s p (fields1059 (records1059 sats gs zs)) e

  pub long_data : 1023 < length s → outcome size s ≡ write_known edition s p sats gs zs
  unfolding refused1059
  long_data h = refusal (rw (lt-ltb 1023 (length s) h))

  module _ (h : length s ≤ 1023) where
    pub uneven_signals : (length sats ≡ length gs → ⊥) → outcome size s ≡ write_known edition s p sats gs zs
    unfolding refused1059
    uneven_signals d = refusal (rw (le-ltb 1023 (length s) h, ne_eqb (length sats) (length gs) d))

    module _ (lg : length sats ≡ length gs) where
      pub uneven_biases : (length sats ≡ length zs → ⊥) → outcome size s ≡ write_known edition s p sats gs zs
      unfolding refused1059
      uneven_biases d = refusal (rw (le-ltb 1023 (length s) h, eq-eqb (length sats) (length gs) lg, ne_eqb (length sats) (length zs) d))

      module _ (lz : length sats ≡ length zs) where
        pub many_records : 1953 < length sats → outcome size s ≡ write_known edition s p sats gs zs
        unfolding refused1059
        many_records m = refusal (rw (le-ltb 1023 (length s) h, eq-eqb (length sats) (length gs) lg, eq-eqb (length sats) (length zs) lz, lt-ltb 1953 (length sats) m))

        module _ (m : length sats ≤ 1953) where
          by_records : refused1059 edition (length s) sats gs zs ≡ refused_records1059 edition (records1059 sats gs zs)
          unfolding refused1059
          by_records = rw (le-ltb 1023 (length s) h, eq-eqb (length sats) (length gs) lg, eq-eqb (length sats) (length zs) lz, le-ltb 1953 (length sats) m)

          pub some_fault : {n : ℕ} {carried : List ℕ} → first_fault (fault1059 edition) 0 (records1059 sats gs zs) ≡ Refused n carried
              → outcome (Refused n carried) s ≡ write_known edition s p sats gs zs
          unfolding refused_records1059
          some_fault e = refusal (rw (by_records, e))

          pub no_fault : first_fault (fault1059 edition) 0 (records1059 sats gs zs) ≡ fine → write_faultless s p (records1059 sats gs zs) ≡ write_known edition s p sats gs zs
          unfolding write_known write_faultless refused_faultless refused_records1059
          no_fault e = ap (λ (t : Told Unit). write_run t s p (fields1059 (records1059 sats gs zs))) (sym (by_records ∙ rw e))

-- ---- and of any edition

pub no_edition : (edition : ℕ) (s : List ℕ) (p : ℕ) (sats gs : List ℕ) (zs : List ℤ) → is_edition edition ≡ false → outcome kind s ≡ write1059 edition s p sats gs zs
unfolding write1059 known_edition
no_edition edition s p sats gs zs e = run_refused _ s p (fields1059 (records1059 sats gs zs)) (rw e)

pub an_edition : (edition : ℕ) (s : List ℕ) (p : ℕ) (sats gs : List ℕ) (zs : List ℤ) → is_edition edition ≡ true → write_known edition s p sats gs zs ≡ write1059 edition s p sats gs zs
unfolding write1059 write_known known_edition
an_edition edition s p sats gs zs e = rw e
