-- When the bias block of message 1059 is written: the conditions of an accepted call, in both directions. Assumes nothing.
use mathlib.Core.Path.{◌≡◌, ◌∙◌}
use mathlib.Core.Bool.{true, cond, not}
use mathlib.Core.List.{List, [], ◌∷◌}
use Prim.Native.Nat.{ℕ, suc, ◌+◌, ◌*◌, ◌≤◌}
use borrow.Author.Tests.{ltb-false, le-ltb, eqb-true, eqb-false, eq-eqb, ne_eqb, not-false}
use lib.ListN.{length}
use lib.IntN.{ℤ}
use lib.Dec.{eqb, ltb}
use Rattle.bits.specs.Told.{Accepted, and_then, too_many}
use Rattle.bits.specs.Signed.{fits_twos}
use Rattle.bits.specs.Outcome.{outcome}
use Rattle.bits.specs.Fields.{total, put_all}
use Rattle.formats.specs.Written.{fine, first_fault}
use Rattle.formats.proofs.NextLaws.{then_accepted}
use Rattle.formats.proofs.WrittenLaws.{fault_none, fault_later, faultless, not_refused}
use Rattle.messages.specs.Every.{Every}
use Rattle.messages.specs.Records.{Rec1059, rec1059, satellite_of, signal_of1059, bias_of1059, records1059}
use Rattle.messages.specs.Signals1059.{is_edition, known_edition, is_signal1059}
use Rattle.messages.specs.Writer.{first_repeat}
use Rattle.messages.specs.Write1059.{fault1059, same_pair, crowded, present, fields1059, refused_records1059, refused1059, write1059}
use Rattle.messages.proofs.WriterLaws.{run_put, run_accepted}

-- ---- faults

-- a record that is not refused
pub record Writable (e : ℕ) (r : Rec1059) : Type 0 where
  pub low : satellite_of r ≤ 63
  pub known : is_signal1059 e (signal_of1059 r) ≡ true
  pub fits : fits_twos 14 (bias_of1059 r) ≡ true

module _ (e : ℕ) where
  no_fault : (i : ℕ) (r : Rec1059) → Writable e r → fault1059 e i r ≡ fine
  unfolding fault1059
  no_fault i (rec1059 a g z) w = rw (le-ltb 63 a w.low) (rw w.known (rw w.fits))

  fault_free : (i : ℕ) (r : Rec1059) → fault1059 e i r ≡ fine → Writable e r
  unfolding fault1059
  fault_free i (rec1059 a g z) h =
      let x = not_refused 5 (i ∷ []) (ltb 63 a) _ h in
      let y = not_refused 4 (i ∷ []) (not (is_signal1059 e g)) _ x.1 in
      let t = not_refused 3 (i ∷ []) (not (fits_twos 14 z)) _ y.1 in
      record { low = ltb-false 63 a x.0; known = not-false (is_signal1059 e g) y.0; fits = not-false (fits_twos 14 z) t.0 }

  pub clean_fine : (i : ℕ) (rs : List Rec1059) → Every (Writable e) rs → first_fault (fault1059 e) i rs ≡ fine
  clean_fine i [] w = fault_none (fault1059 e) i
  clean_fine i (r ∷ rs) w = fault_later (fault1059 e) i r rs (no_fault i r w.0) ∙ clean_fine (suc i) rs w.1

  pub fine_clean : (i : ℕ) (rs : List Rec1059) → first_fault (fault1059 e) i rs ≡ fine → Every (Writable e) rs
  fine_clean i [] h = tt
  fine_clean i (r ∷ rs) h =
      let t = faultless (fault1059 e) i r rs h in
      (fault_free i r t.0, fine_clean (suc i) rs t.1)

-- ---- the records

-- records of which nothing is refused
pub record Fine (e : ℕ) (rs : List Rec1059) : Type 0 where
  pub clean : Every (Writable e) rs
  pub thin : crowded 0 64 rs ≡ fine
  pub fewer : present 0 64 rs ≡ 64 → ⊥
  pub single : first_repeat same_pair 0 [] rs ≡ fine

module _ (e : ℕ) (rs : List Rec1059) where
  pub records_fine : Fine e rs → refused_records1059 e rs ≡ fine
  unfolding refused_records1059
  records_fine w = rw (clean_fine e 0 rs w.clean, w.thin, ne_eqb (present 0 64 rs) 64 w.fewer) w.single

  pub fine_records : refused_records1059 e rs ≡ fine → Fine e rs
  unfolding refused_records1059
  fine_records h =
      let a = then_accepted (first_fault (fault1059 e) 0 rs) _ h in
      let b = then_accepted (crowded 0 64 rs) _ a.2 in
      let c = then_accepted (cond (eqb (present 0 64 rs) 64) (too_many 64) fine) _ b.2 in
      let d = not_refused 6 (64 ∷ []) (eqb (present 0 64 rs) 64) fine c.1 in
      record { clean = fine_clean e 0 rs a.1; thin = b.1; fewer = eqb-false (present 0 64 rs) 64 d.0; single = c.2 }

-- ---- the call

pub edition_known : (e : ℕ) → is_edition e ≡ true → known_edition e ≡ fine
unfolding known_edition
edition_known e h = rw h

module _ (e : ℕ) (s : List ℕ) (p : ℕ) (sats gs : List ℕ) (zs : List ℤ) where
  pub record Writes : Type 0 where
    pub edition : known_edition e ≡ fine
    pub few : length s ≤ 1023
    pub signals : length sats ≡ length gs
    pub biases : length sats ≡ length zs
    pub most : length sats ≤ 1953
    pub records : Fine e (records1059 sats gs zs)
    pub within : p + total (fields1059 (records1059 sats gs zs)) ≤ length s * 8

  nothing_refused : Writes → and_then (known_edition e) (λ u. refused1059 e (length s) sats gs zs) ≡ fine
  unfolding refused1059
  nothing_refused w =
      rw (w.edition, le-ltb 1023 (length s) w.few, eq-eqb (length sats) (length gs) w.signals, eq-eqb (length sats) (length zs) w.biases, le-ltb 1953 (length sats) w.most)
      (records_fine e (records1059 sats gs zs) w.records)

  pub call_written : Writes → write1059 e s p sats gs zs ≡ outcome (Accepted (p + total (fields1059 (records1059 sats gs zs)))) (put_all s p (fields1059 (records1059 sats gs zs)))
  unfolding write1059
  call_written w = run_put _ s p (fields1059 (records1059 sats gs zs)) (nothing_refused w) w.within

  pub call_accepted : {q : ℕ} → (write1059 e s p sats gs zs).answer ≡ Accepted q → Writes
  unfolding write1059 refused1059
  call_accepted h =
      let r = run_accepted _ s p (fields1059 (records1059 sats gs zs)) h in
      let k = then_accepted (known_edition e) (λ u. refused1059 e (length s) sats gs zs) r.0 in
      let a = not_refused 9 [] (ltb 1023 (length s)) _ k.2 in
      let b = not_refused 9 [] (not (eqb (length sats) (length gs))) _ a.1 in
      let c = not_refused 9 [] (not (eqb (length sats) (length zs))) _ b.1 in
      let d = not_refused 9 [] (ltb 1953 (length sats)) _ c.1 in
      record {
        edition = k.1;
        few = ltb-false 1023 (length s) a.0;
        signals = eqb-true (length sats) (length gs) (not-false (eqb (length sats) (length gs)) b.0);
        biases = eqb-true (length sats) (length zs) (not-false (eqb (length sats) (length zs)) c.0);
        most = ltb-false 1953 (length sats) d.0;
        records = fine_records e (records1059 sats gs zs) d.1;
        within = r.1;
      }
