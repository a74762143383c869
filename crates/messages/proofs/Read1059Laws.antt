-- Reading the bias block of message 1059, as the code does: one bias, one satellite, and which case of `read1059` holds. Assumes nothing.
use mathlib.Core.Path.{◌≡◌, refl, sym, ap, ap₂, ◌∙◌}
use mathlib.Core.List.{List, [], ◌∷◌}
use mathlib.Core.Bool.{cond}
use Prim.Native.Nat.{ℕ, ◌≤◌, ◌<◌, ◌+◌, ◌*◌, ◌/◌, ◌%◌, ◌^◌}
use native.Mathlib.Decide.{dec_lt}
use native.Mathlib.Omega.{arith}
use borrow.Author.Tests.{lt-ltb, le-ltb, eq-eqb, ne_eqb}
use lib.IntN.{ℤ}
use lib.ListN.{length, set}
use lib.Dec.{ltb}
use lib.Pow.{high, low}
use Rattle.bits.specs.Told.{Told, Accepted, size, Refused}
use Rattle.bits.specs.Field.{Reading, reading, missing, cut_at, read_unsigned, field, read_twos}
use Rattle.bits.specs.Outcome.{Outcome, outcome, refusing}
use Rattle.bits.specs.Signed.{twos_of}
use Rattle.bits.proofs.FieldLaws.{field_split, field_lt}
use Rattle.bits.proofs.ReadLaws.{reads_value, reads_short, read_tells}
use Rattle.formats.specs.Format.{read_each}
use Rattle.messages.specs.StepsRead.{many, Lists1059, lists1059, put1059, counts, Stored}
use Rattle.messages.specs.Records.{Rec1059, Counted, counted, rec1059}
use Rattle.messages.specs.StepsRead1059.{satellite_at, bias_at, read_satellites}
use Rattle.messages.specs.Read1059.{read_block1059, filled1059, read1059}
use Rattle.messages.specs.Layout1059.{bias1059, satellite1059, of_bias, of_sat, flat1059}
use Rattle.messages.proofs.AcceptLaws.{read_as}
use Rattle.messages.proofs.Layout1059Laws.{satellite_good, many_same, behind_count, behind_both}
use Rattle.messages.proofs.Fits1059Laws.{good, own_length}
use Rattle.messages.proofs.CallLaws.{Call}
use Rattle.messages.proofs.StoreLaws.{put1059_front}
use Rattle.messages.proofs.PassLaws.{counts_refused, counted_tells, stored_one}
use Rattle.messages.proofs.RunLaws.{Single, single_within, Run, many_run, run_fits, run_cut}

-- ---- one bias

module _ (s : List ℕ) (a p : ℕ) where
  bias_cut : {carried : List ℕ} → read_unsigned s p 5 ≡ Refused 1 carried → bias_at s a p ≡ Refused 1 carried
  unfolding bias_at
  bias_cut e = rw e

  bias_cut_2 : {g q : ℕ} {carried : List ℕ} → read_unsigned s p 5 ≡ Accepted (reading g q) → read_twos s q 14 ≡ Refused 1 carried → bias_at s a p ≡ Refused 1 carried
  unfolding bias_at
  bias_cut_2 e f = rw (e, f)

  two_read : {g q r : ℕ} {z : ℤ} → read_unsigned s p 5 ≡ Accepted (reading g q) → read_twos s q 14 ≡ Accepted (reading z r) → bias_at s a p ≡ Accepted (reading (rec1059 a g z ∷ []) r)
  unfolding bias_at
  two_read e f = rw (e, f)

-- ---- the biases of a satellite: 19 bits each

-- what Short carries of the field of w bits from bit p on
abbrev lack : List ℕ → ℕ → ℕ → List ℕ
lack s p w = p ∷ missing (length s * 8) p w ∷ []

-- what a bias that starts at bit p and is cut short carries: of its signal, or else of what is behind it
cut_bias : List ℕ → ℕ → List ℕ
cut_bias s p = cond (ltb (length s * 8) (p + 5)) (lack s p 5) (lack s (p + 5) 14)

cut_signal : (s : List ℕ) (p : ℕ) → length s * 8 < p + 5 → cut_bias s p ≡ lack s p 5
unfolding cut_bias
cut_signal s p h = rw (lt-ltb _ _ h)

cut_behind : (s : List ℕ) (p : ℕ) → p + 5 ≤ length s * 8 → cut_bias s p ≡ lack s (p + 5) 14
unfolding cut_bias
cut_behind s p h = rw (le-ltb _ _ h)

module _ (s : List ℕ) (few : length s ≤ 1023) (a : ℕ) where
  bias_fits : (p : ℕ) → p + 19 ≤ length s * 8 → bias_at s a p ≡ Accepted (reading (rec1059 a (field s p 5) (twos_of 14 (field s (p + 5) 14)) ∷ []) (p + 19))
  bias_fits p h =
      let e : p + 5 + 14 ≡ p + 19 = omega arith in
      two_read s a p (reads_value (λ v. v) s p 5 few (omega arith) (omega arith) (omega arith)) (reads_value (twos_of 14) s (p + 5) 14 few (omega arith) (omega arith) (omega arith))
      ∙ ap (λ (q : ℕ). Accepted (reading (rec1059 a (field s p 5) (twos_of 14 (field s (p + 5) 14)) ∷ []) q)) e

  one_bias : Single 19 (length s * 8) (cut_bias s) (bias_at s a)
  one_bias =
      record {
        record_of = λ p. rec1059 a (field s p 5) (twos_of 14 (field s (p + 5) 14));
        fits = bias_fits;
        cuts = λ p h. cuts p h (dec_lt (length s * 8) (p + 5));
      }
    where
      cuts : (p : ℕ) → length s * 8 < p + 19 → Dec (length s * 8 < p + 5) → bias_at s a p ≡ Refused 1 (cut_bias s p)
      cuts p h (yes l) =
          bias_cut s a p (reads_short (λ v. v) s p 5 few (omega arith) (omega arith) l) ∙ ap (λ (c : List ℕ). Refused 1 c) (sym (cut_signal s p l))
      cuts p h (no l) =
          bias_cut_2 s a p (reads_value (λ v. v) s p 5 few (omega arith) (omega arith) (omega arith)) (reads_short (twos_of 14) s (p + 5) 14 few (omega arith) (omega arith) (omega arith))
          ∙ ap (λ (c : List ℕ). Refused 1 c) (sym (cut_behind s p (omega arith)))

  -- where a bias is accepted, its 19 bits are there
  pub bias_within : (p : ℕ) {r : Reading (List Rec1059)} → bias_at s a p ≡ Accepted r → p + 19 ≤ length s * 8
  bias_within p e = single_within 19 (length s * 8) (cut_bias s) one_bias p e

  -- a bias out of one look at its 19 bits: the signal above, the bias below
  pub bias_read : (p : ℕ) {v q : ℕ} → read_unsigned s p 19 ≡ Accepted (reading v q) → bias_at s a p ≡ Accepted (reading (rec1059 a (v / 2 ^ 14) (twos_of 14 (v % 2 ^ 14)) ∷ []) q)
  bias_read p {v} {q} e =
      let t = read_tells (λ x. x) s p 19 e in
      let d : v ≡ field s p 5 * 2 ^ 14 + field s (p + 5) 14 = ap (λ (r : Reading ℕ). r.value) t.is ∙ field_split s p 5 14 in
      let n : q ≡ p + 19 = ap (λ (r : Reading ℕ). r.next) t.is in
      let g : v / 2 ^ 14 ≡ field s p 5 = ap (λ (x : ℕ). x / 2 ^ 14) d ∙ high (field s p 5) 14 (field_lt s (p + 5) 14) in
      let z : v % 2 ^ 14 ≡ field s (p + 5) 14 = ap (λ (x : ℕ). x % 2 ^ 14) d ∙ low (field s p 5) 14 (field_lt s (p + 5) 14) in
      bias_fits p t.within
      ∙ ap₂ (λ (x y : ℕ). Accepted (reading (rec1059 a x (twos_of 14 y) ∷ []) (p + 19))) (sym g) (sym z)
      ∙ ap (λ (m : ℕ). Accepted (reading (rec1059 a (v / 2 ^ 14) (twos_of 14 (v % 2 ^ 14)) ∷ []) m)) (sym n)

  -- and its record is stored at place i
  pub bias_stored : (p i : ℕ) (sats gs : List ℕ) (zs : List ℤ) {v q g : ℕ} {z : ℤ} → read_unsigned s p 19 ≡ Accepted (reading v q) → g ≡ v / 2 ^ 14 → z ≡ twos_of 14 (v % 2 ^ 14)
      → Stored put1059 i (bias_at s a p) (Accepted (counted (i + 1) q)) (lists1059 sats gs zs) (lists1059 (set sats i a) (set gs i g) (set zs i z))
  unfolding put1059
  bias_stored p i sats gs zs e f d =
      stored_one put1059 (bias_read p e) (ap₂ (λ (y : ℕ) (x : ℤ). lists1059 (set sats i a) (set gs i y) (set zs i x)) f d)

  biases_run : (n : ℕ) → Run 19 (length s * 8) (cut_bias s) n (many (bias_at s a) n)
  biases_run n = many_run 19 (length s * 8) (cut_bias s) one_bias n

  module _ (i n p : ℕ) where
    -- all n are there
    pub biases_fit : p + n * 19 ≤ length s * 8 → Accepted (counted (i + n) (p + n * 19)) ≡ counts i (many (bias_at s a) n p)
    biases_fit h = run_fits 19 (length s * 8) (cut_bias s) (biases_run n) i p h

    -- m are there, and the signal of the next is not
    pub no_signal : (m : ℕ) → m < n → p + m * 19 ≤ length s * 8 → length s * 8 < p + m * 19 + 5
        → cut_at (length s) (p + m * 19) 5 ≡ counts i (many (bias_at s a) n p)
    no_signal m l h c =
        counts_refused i
        (run_cut 19 (length s * 8) (cut_bias s) (biases_run n) m p l h (omega arith) ∙ ap (λ (c : List ℕ). Refused 1 c) (cut_signal s (p + m * 19) c))

    -- m are there and the signal of the next, but not its bias
    pub no_bias : (m : ℕ) → m < n → p + m * 19 + 5 ≤ length s * 8 → length s * 8 < p + m * 19 + 19
        → {q : ℕ} → q ≡ p + m * 19 + 5 → cut_at (length s) q 14 ≡ counts i (many (bias_at s a) n p)
    no_bias m l h c e =
        ap (λ (q : ℕ). cut_at (length s) q 14) e
        ∙ counts_refused i
        (run_cut 19 (length s * 8) (cut_bias s) (biases_run n) m p l (omega arith) c ∙ ap (λ (c : List ℕ). Refused 1 c) (cut_behind s (p + m * 19) h))

-- ---- one satellite

module _ (s : List ℕ) (p : ℕ) where
  pub satellite_cut : {m : ℕ} {carried : List ℕ} → read_unsigned s p 6 ≡ Refused m carried → satellite_at s p ≡ Refused m carried
  unfolding satellite_at
  satellite_cut e = rw e

  module _ {a q : ℕ} (e : read_unsigned s p 6 ≡ Accepted (reading a q)) where
    pub satellite_cut_2 : {m : ℕ} {carried : List ℕ} → read_unsigned s q 5 ≡ Refused m carried → satellite_at s p ≡ Refused m carried
    unfolding satellite_at
    satellite_cut_2 f = rw (e, f)

    pub satellite_read : {n r : ℕ} → read_unsigned s q 5 ≡ Accepted (reading n r) → satellite_at s p ≡ many (bias_at s a) n r
    unfolding satellite_at bias_at
    satellite_read {n} {r} f = rw (e, f) (behind_both a n (read_each bias1059 n s r) ∙ sym (many_same bias1059 (of_bias a) s n r))

module _ (s : List ℕ) (few : length s ≤ 1023) (p : ℕ) where
  number_there : p + 6 ≤ length s * 8 → read_unsigned s p 6 ≡ Accepted (reading (field s p 6) (p + 6))
  number_there h = reads_value (λ v. v) s p 6 few (omega arith) (omega arith) h

  -- where a satellite is accepted, its first 11 bits are there
  pub satellite_within : {r : Reading (List Rec1059)} → satellite_at s p ≡ Accepted r → p + 11 ≤ length s * 8
  satellite_within {r} e = go (dec_lt (length s * 8) (p + 6)) (dec_lt (length s * 8) (p + 11))
    where
      go : Dec (length s * 8 < p + 6) → Dec (length s * 8 < p + 11) → p + 11 ≤ length s * 8
      go (yes h) l =
          let d = satellite_cut s p (reads_short (λ v. v) s p 6 few (omega arith) (omega arith) h) in
          let z : ◌≡◌ {A = ℕ} 0 1 = cc in absurd (omega arith)
      go (no h) (yes l) =
          let d = satellite_cut_2 s p (number_there (omega arith)) (reads_short (λ v. v) s (p + 6) 5 few (omega arith) (omega arith) (omega arith)) in
          let z : ◌≡◌ {A = ℕ} 0 1 = cc in absurd (omega arith)
      go (no h) (no l) = omega arith

  -- a satellite out of one look at them: its number above, that of its biases below
  pub satellite_look : {v q : ℕ} → read_unsigned s p 11 ≡ Accepted (reading v q) → satellite_at s p ≡ many (bias_at s (v / 2 ^ 5)) (v % 32) q
  satellite_look {v} {q} e =
      let t = read_tells (λ x. x) s p 11 e in
      let w : p + 11 ≤ length s * 8 = t.within in
      let d : v ≡ field s p 6 * 2 ^ 5 + field s (p + 6) 5 = ap (λ (r : Reading ℕ). r.value) t.is ∙ field_split s p 6 5 in
      let n : q ≡ p + 11 = ap (λ (r : Reading ℕ). r.next) t.is in
      let a : v / 2 ^ 5 ≡ field s p 6 = ap (λ (x : ℕ). x / 2 ^ 5) d ∙ high (field s p 6) 5 (field_lt s (p + 6) 5) in
      let b : v % 32 ≡ field s (p + 6) 5 = ap (λ (x : ℕ). x % 32) d ∙ low (field s p 6) 5 (field_lt s (p + 6) 5) in
      let m : p + 6 + 5 ≡ q = omega arith in
      satellite_read s p (number_there (omega arith)) (reads_value (λ v. v) s (p + 6) 5 few (omega arith) (omega arith) (omega arith))
      ∙ ap₂ (λ (x y : ℕ). many (bias_at s x) y (p + 6 + 5)) (sym a) (sym b)
      ∙ ap (many (bias_at s (v / 2 ^ 5)) (v % 32)) m

-- a satellite has at most 31 biases, so a count grows by at most 31
pub few_more : (s : List ℕ) (p : ℕ) → length s ≤ 1023 → (i : ℕ) {j q : ℕ} → Accepted (counted j q) ≡ counts i (satellite_at s p) → j ≤ i + 31
unfolding satellite_at
few_more s p few i {j} {q} e =
    let t = counted_tells i (satellite_at s p) e in
    let a = read_as of_sat (satellite1059.reads s p) t.is in
    let g = good a.0 (satellite_good.faithful.there s p (reading a.0 q) a.1).fitting in
    omega (arith, t.count, ap length a.2, own_length a.0.0 a.0.1, g.thin)

-- ---- the block, by its satellite count

block_cut : (s : List ℕ) (p : ℕ) {m : ℕ} {carried : List ℕ} → read_unsigned s p 6 ≡ Refused m carried → read_block1059 s p ≡ Refused m carried
unfolding read_block1059
block_cut s p e = rw e

block_read : (s : List ℕ) (p : ℕ) {n q : ℕ} → read_unsigned s p 6 ≡ Accepted (reading n q) → read_block1059 s p ≡ many (satellite_at s) n q
unfolding read_block1059 satellite_at
block_read s p {n} {q} e = rw e (behind_count flat1059 n (read_each satellite1059 n s q) ∙ sym (many_same satellite1059 of_sat s n q))

-- ---- the call

abbrev pub outcome_of : Told Counted → Lists1059 → Outcome Counted (List ℕ × List ℕ × List ℤ)
outcome_of a l = outcome a (l.satellites, l.signals, l.biases)

module _ (s : List ℕ) (p : ℕ) (sats gs : List ℕ) (zs : List ℤ) where
  pub too_long : 1023 < length s → outcome size (sats, gs, zs) ≡ read1059 s p sats gs zs
  unfolding read1059
  too_long h = rw (lt-ltb _ _ h)

  module _ (few : length s ≤ 1023) where
    pub uneven : (length sats ≡ length gs → ⊥) → outcome size (sats, gs, zs) ≡ read1059 s p sats gs zs
    unfolding read1059
    uneven d = rw (le-ltb _ _ few, ne_eqb _ _ d)

    pub uneven_2 : length sats ≡ length gs → (length sats ≡ length zs → ⊥) → outcome size (sats, gs, zs) ≡ read1059 s p sats gs zs
    unfolding read1059
    uneven_2 e d = rw (le-ltb _ _ few, eq-eqb _ _ e, ne_eqb _ _ d)

    module _ (d : length sats ≡ length gs) (e : length sats ≡ length zs) where
      -- the number of satellites is cut short
      pub count_cut : {m : ℕ} {carried : List ℕ} → read_unsigned s p 6 ≡ Refused m carried → outcome (Refused m carried) (sats, gs, zs) ≡ read1059 s p sats gs zs
      unfolding read1059
      count_cut k = rw (le-ltb _ _ few, eq-eqb _ _ d, eq-eqb _ _ e, block_cut s p k)

      -- it is there, and its satellites lie behind it
      pub count_read : {n q : ℕ} → read_unsigned s p 6 ≡ Accepted (reading n q) → read_satellites s n q sats gs zs ≡ read1059 s p sats gs zs
      unfolding read1059 read_satellites
      count_read k = rw (le-ltb _ _ few, eq-eqb _ _ d, eq-eqb _ _ e, block_read s p k)

pub call1059 : (s : List ℕ) (n p : ℕ) (sats gs : List ℕ) (zs : List ℤ) → length sats ≡ length gs → length sats ≡ length zs
    → Call put1059 outcome_of (lists1059 sats gs zs) (length sats) (many (satellite_at s) n p) (read_satellites s n p sats gs zs)
unfolding read_satellites
call1059 s n p sats gs zs d e =
    record {
      left = λ t. refusing (sats, gs, zs) t (filled1059 sats gs zs);
      is = refl;
      refused = λ m carried. refl;
      accepted = λ r l. ap (outcome_of (Accepted (counted (length r.value) r.next))) (sym (put1059_front r.value sats gs zs l (sym d) (sym e)));
    }
