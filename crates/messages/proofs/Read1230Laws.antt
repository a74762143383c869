-- Reading the bias block of message 1230, as the code does: its mask, its biases, and which case of `read1230` holds. Assumes nothing.
use mathlib.Core.Path.{◌≡◌, refl, sym, ap, ap₂, ◌∙◌}
use mathlib.Core.List.{List, [], ◌∷◌}
use Prim.Native.Nat.{ℕ, ◌≤◌, ◌<◌, zero, suc, ◌+◌, ◌-◌, ◌*◌, ◌/◌, ◌%◌, ◌^◌}
use native.Mathlib.Nat.{div-one, mod-eq_of_lt}
use native.Mathlib.Decide.{ℕ_discrete}
use native.Mathlib.Omega.{arith}
use borrow.Author.Tests.{lt-ltb, le-ltb, eq-eqb, ne_eqb}
use lib.IntN.{ℤ}
use lib.ListN.{length, set, drop, get_or}
use lib.Dec.{eqb}
use lib.Pow.{shl_exact}
use Rattle.bits.specs.Told.{Told, Accepted, size, Refused, and_then}
use Rattle.bits.specs.Field.{missing, cut_at, Reading, reading, read_unsigned, field, read_twos}
use Rattle.bits.specs.Outcome.{Outcome, outcome, refusing}
use Rattle.bits.specs.Signed.{twos_of}
use Rattle.bits.proofs.ReadLaws.{reads_value, reads_short}
use Rattle.bits.proofs.FieldLaws.{field_lt, field_split, field_within, byte_field}
use Rattle.formats.specs.Format.{twos, read_each}
use Rattle.messages.specs.Records.{Rec1230, Counted, counted, rec1230, records1230}
use Rattle.messages.specs.Reader.{as_records}
use Rattle.messages.specs.Layout1230.{mask_signals, masked, flat1230}
use Rattle.messages.specs.StepsRead1230.{biases_at, read_masked}
use Rattle.messages.specs.Read1230.{read_block1230, filled1230, read1230}
use Rattle.messages.specs.StepsRead.{Lists1230, lists1230, put1230, counts, Suffices, Stored, before}
use Rattle.messages.specs.Writer.{keep}
use Rattle.messages.proofs.Layout1230Laws.{biases_none, biases_next}
use Rattle.messages.proofs.CallLaws.{Call}
use Rattle.messages.proofs.StoreLaws.{put1230_front, put1230_on, Doing, left_as, step_suffices, step_stored}
use Rattle.messages.proofs.PassLaws.{chain, counts_refused, stored_one}
use Rattle.messages.proofs.RunLaws.{Single, single_within, Run, none, more, run_fits, run_cut}

-- ---- the mask

-- a signal is kept or dropped by its bit
keeps : (b g : ℕ) (gs : List ℕ) → b % 2 ≡ 1 → keep (eqb (b % 2) 1) g gs ≡ g ∷ gs
keeps b g gs e = rw (eq-eqb (b % 2) 1 e)

drops : (b g : ℕ) (gs : List ℕ) → b % 2 ≡ 0 → keep (eqb (b % 2) 1) g gs ≡ gs
drops b g gs e =
    let n : (b % 2 ≡ 1 → ⊥) = λ d. omega arith in
    rw (ne_eqb (b % 2) 1 n)

length_keep : (b g : ℕ) (gs : List ℕ) → length (keep (eqb (b % 2) 1) g gs) ≡ b % 2 + length gs
length_keep b g gs = go (ℕ_discrete (b % 2) 1)
  where
    go : Dec (b % 2 ≡ 1) → length (keep (eqb (b % 2) 1) g gs) ≡ b % 2 + length gs
    go (yes e) = ap length (keeps b g gs e) ∙ omega arith
    go (no n) = let e : b % 2 ≡ 0 = omega arith in ap length (drops b g gs e) ∙ omega arith

-- how many signals a mask has
pub masked_length : (m : ℕ) → m / 8 % 2 + m / 4 % 2 + m / 2 % 2 + m % 2 ≡ length (masked mask_signals m)
unfolding masked
masked_length m =
    let a = length_keep (m / 8) 2 (masked (3 ∷ 8 ∷ 9 ∷ []) m) in
    let b = length_keep (m / 4) 3 (masked (8 ∷ 9 ∷ []) m) in
    let c = length_keep (m / 2) 8 (masked (9 ∷ []) m) in
    let d = length_keep (m / 1) 9 (masked [] m) in
    omega (arith, div-one m)

-- ---- the mask out of one byte, or two

module _ (s : List ℕ) (p b : ℕ) (e : b ≡ get_or s (p / 8) 0) (h : b < 256) where
  abbrev from : ℕ
  from = p / 8 * 8

  first_byte : field s from 8 ≡ b
  first_byte = byte_field s from (p / 8) refl ∙ ap (λ (n : ℕ). n % 2 ^ 8) (sym e) ∙ mod-eq_of_lt h

  -- n bits from there on, of which the mask is a part
  mask_within : (n x : ℕ) → field s from n ≡ x → x < 2 ^ n → n ≤ 16 → p % 8 + 4 ≤ n → (x * 2 ^ (p % 8) % 2 ^ 64 % 2 ^ n / 2 ^ (n - 4) ≡ field s p 4) × (x * 2 ^ (p % 8) % 2 ^ 64 % 2 ^ n / 2 ^ (n - 4) < 16)
  mask_within n x f l m k =
      let at : from + p % 8 ≡ p = omega arith in
      let g : x * 2 ^ (p % 8) % 2 ^ 64 ≡ x * 2 ^ (p % 8) = shl_exact n (p % 8) 64 l (omega arith) in
      let r : x * 2 ^ (p % 8) % 2 ^ 64 % 2 ^ n / 2 ^ (n - 4) ≡ field s p 4 =
      ap (λ (y : ℕ). y % 2 ^ n / 2 ^ (n - 4)) g ∙ ap (λ (y : ℕ). y * 2 ^ (p % 8) % 2 ^ n / 2 ^ (n - 4)) (sym f) ∙ sym (field_within s from n (p % 8) 4 k) ∙ ap (λ (q : ℕ). field s q 4) at in
      (r, rw r (field_lt s p 4))

  pub mask_in_one : p % 8 < 5 → (b * 2 ^ (p % 8) % 2 ^ 64 % 256 / 2 ^ 4 ≡ field s p 4) × (b * 2 ^ (p % 8) % 2 ^ 64 % 256 / 2 ^ 4 < 16)
  mask_in_one k = mask_within 8 b first_byte h (omega arith) (omega arith)

  pub mask_in_two : (d : ℕ) → d ≡ get_or s (p / 8 + 1) 0 → d < 256 → ((b * 256 + d) * 2 ^ (p % 8) % 2 ^ 64 % 65536 / 2 ^ 12 ≡ field s p 4) × ((b * 256 + d) * 2 ^ (p % 8) % 2 ^ 64 % 65536 / 2 ^ 12 < 16)
  mask_in_two d g l =
      let q : from + 8 ≡ (p / 8 + 1) * 8 = omega arith in
      let second : field s (from + 8) 8 ≡ d = byte_field s (from + 8) (p / 8 + 1) q ∙ ap (λ (n : ℕ). n % 2 ^ 8) (sym g) ∙ mod-eq_of_lt l in
      let both : field s from 16 ≡ b * 256 + d = field_split s from 8 8 ∙ ap₂ (λ (x y : ℕ). x * 2 ^ 8 + y) first_byte second in
      mask_within 16 (b * 256 + d) both (omega arith) (omega arith) (omega arith)

-- the number of a mask that is there
pub mask_there : (s : List ℕ) (p : ℕ) {m : ℕ} → m ≡ field s p 4 → length s ≤ 1023 → p + 4 ≤ length s * 8 → read_unsigned s p 4 ≡ Accepted (reading m (p + 4))
mask_there s p e few h = reads_value (λ x. x) s p 4 few (omega arith) (omega arith) h ∙ ap (λ (v : ℕ). Accepted (reading v (p + 4))) (sym e)

-- from signal k on
masked_step : (k m : ℕ) → k < 4 → masked (drop k mask_signals) m ≡ keep (eqb (m / 2 ^ (3 - k) % 2) 1) (get_or mask_signals k 0) (masked (drop (k + 1) mask_signals) m)
unfolding masked
masked_step zero m h = refl
masked_step (suc zero) m h = refl
masked_step (suc (suc zero)) m h = refl
masked_step (suc (suc (suc zero))) m h = refl
masked_step (suc (suc (suc (suc k)))) m h = absurd (omega arith)

masked_has : (k m : ℕ) → k < 4 → (m / 2 ^ (3 - k) % 2 ≡ 0 → ⊥) → masked (drop k mask_signals) m ≡ get_or mask_signals k 0 ∷ masked (drop (k + 1) mask_signals) m
masked_has k m h n = masked_step k m h ∙ keeps (m / 2 ^ (3 - k)) (get_or mask_signals k 0) (masked (drop (k + 1) mask_signals) m) (omega arith)

pub masked_lacks : (s : List ℕ) (k m p : ℕ) → k < 4 → m / 2 ^ (3 - k) % 2 ≡ 0 → biases_at s (masked (drop k mask_signals) m) p ≡ biases_at s (masked (drop (k + 1) mask_signals) m) p
masked_lacks s k m p h e =
    ap (λ (gs : List ℕ). biases_at s gs p)
    (masked_step k m h ∙ drops (m / 2 ^ (3 - k)) (get_or mask_signals k 0) (masked (drop (k + 1) mask_signals) m) e)

pub masked_none : (s : List ℕ) (k m p : ℕ) → 4 ≤ k → k ≤ 4 → biases_at s (masked (drop k mask_signals) m) p ≡ Accepted (reading [] p)
unfolding masked
masked_none s k m p h l = let e : k ≡ 4 = omega arith in rw e (biases_none s p)

-- ---- one bias, and the others behind it

module _ (s : List ℕ) (g p : ℕ) where
  pub bias_cut : {carried : List ℕ} → read_twos s p 16 ≡ Refused 1 carried → biases_at s (g ∷ []) p ≡ Refused 1 carried
  bias_cut e = rw (biases_next s g [] p, e)

  pub bias_read : {z : ℤ} {q : ℕ} → read_twos s p 16 ≡ Accepted (reading z q) → biases_at s (g ∷ []) p ≡ Accepted (reading (rec1230 g z ∷ []) q)
  bias_read {z} {q} e = rw (biases_next s g [] p, e, biases_none s q)

  -- and its record is stored at place i
  pub bias_stored : (i : ℕ) (gs : List ℕ) (zs : List ℤ) {q : ℕ} {z y : ℤ} → read_twos s p 16 ≡ Accepted (reading z q) → y ≡ z
      → Stored put1230 i (biases_at s (g ∷ []) p) (Accepted (counted (i + 1) q)) (lists1230 gs zs) (lists1230 (set gs i g) (set zs i y))
  unfolding put1230
  bias_stored i gs zs e d = stored_one put1230 (bias_read e) (ap (λ (x : ℤ). lists1230 (set gs i g) (set zs i x)) d)

  pub biases_on : (gs : List ℕ) → biases_at s (g ∷ gs) p ≡ chain (biases_at s (g ∷ []) p) (biases_at s gs)
  biases_on gs = biases_next s g gs p ∙ go (read_twos s p 16) ∙ sym (ap (λ (t : Told (Reading (List Rec1230))). chain t (biases_at s gs)) (biases_next s g [] p))
    where
      go : (t : Told (Reading ℤ))
          → and_then t (λ z. before (rec1230 g z.value ∷ []) (biases_at s gs z.next))
          ≡ chain (and_then t (λ z. before (rec1230 g z.value ∷ []) (biases_at s [] z.next))) (biases_at s gs)
      go (Accepted z) = rw (biases_none s z.next)
      go (Refused n carried) = refl

-- ---- the biases: 16 bits each

-- what a bias that starts at bit p and is cut short carries
abbrev cut_bias : List ℕ → ℕ → List ℕ
cut_bias s p = p ∷ missing (length s * 8) p 16 ∷ []

module _ (s : List ℕ) (few : length s ≤ 1023) where
  one_bias : (g : ℕ) → Single 16 (length s * 8) (cut_bias s) (biases_at s (g ∷ []))
  one_bias g =
      record {
        record_of = λ p. rec1230 g (twos_of 16 (field s p 16));
        fits = λ p h. bias_read s g p (reads_value (twos_of 16) s p 16 few (omega arith) (omega arith) h);
        cuts = λ p h. bias_cut s g p (reads_short (twos_of 16) s p 16 few (omega arith) (omega arith) h);
      }

  -- where a bias is accepted, its 16 bits are there
  pub bias_within : (g p : ℕ) {r : Reading (List Rec1230)} → biases_at s (g ∷ []) p ≡ Accepted r → p + 16 ≤ length s * 8
  bias_within g p e = single_within 16 (length s * 8) (cut_bias s) (one_bias g) p e

  biases_run : (gs : List ℕ) → Run 16 (length s * 8) (cut_bias s) (length gs) (biases_at s gs)
  biases_run [] = none (λ p. biases_none s p)
  biases_run (g ∷ gs) = more (one_bias g) (λ p. biases_on s g p gs) (biases_run gs)

  module _ (gs : List ℕ) (n p : ℕ) (e : length gs ≡ n) where
    -- all n are there
    pub biases_fit : p + n * 16 ≤ length s * 8 → Accepted (counted n (p + n * 16)) ≡ counts 0 (biases_at s gs p)
    biases_fit h =
        let a : n ≡ 0 + length gs = omega arith in
        let b : p + n * 16 ≡ p + length gs * 16 = omega arith in
        ap₂ (λ (x y : ℕ). Accepted (counted x y)) a b ∙ run_fits 16 (length s * 8) (cut_bias s) (biases_run gs) 0 p (omega arith)

    -- m are there, and the next is not
    pub no_bias : (m : ℕ) → m < n → p + m * 16 ≤ length s * 8 → length s * 8 < p + m * 16 + 16
        → cut_at (length s) (p + m * 16) 16 ≡ counts 0 (biases_at s gs p)
    no_bias m l h c =
        counts_refused 0 (run_cut 16 (length s * 8) (cut_bias s) (biases_run gs) m p (omega arith) h c)

-- ---- a turn of the second pass at signal k, whose bit is set; l is the code's list of the signals

module _ (s l : List ℕ) (k m p : ℕ) (is : l ≡ mask_signals) (h : k < 4) (bit : m / 2 ^ (3 - k) % 2 ≡ 0 → ⊥) where
  later : ℕ → Told (Reading (List Rec1230))
  later q = biases_at s (masked (drop (k + 1) mask_signals) m) q

  signal_left : biases_at s (masked (drop k mask_signals) m) p ≡ chain (biases_at s (get_or l k 0 ∷ []) p) later
  unfolding later
  signal_left =
      ap (λ (gs : List ℕ). biases_at s gs p) (masked_has k m h bit)
      ∙ biases_on s (get_or mask_signals k 0) p (masked (drop (k + 1) mask_signals) m)
      ∙ ap (λ (gs : List ℕ). chain (biases_at s (get_or gs k 0 ∷ []) p) later) (sym is)

  module _ {first n : ℕ} {whole : Told (Reading (List Rec1230))} {old : Lists1230} (i : ℕ) {now : Lists1230}
      (d : Doing put1230 first n whole old i (biases_at s (masked (drop k mask_signals) m) p) now) where
    pub signal_suffices : Suffices i (biases_at s (get_or l k 0 ∷ []) p) n
    signal_suffices = step_suffices put1230 i (biases_at s (get_or l k 0 ∷ []) p) later (left_as put1230 d signal_left)

    pub signal_stored : {j q : ℕ} {new : Lists1230} → Stored put1230 i (biases_at s (get_or l k 0 ∷ []) p) (Accepted (counted j q)) now new
        → Doing put1230 first n whole old j (biases_at s (masked (drop (k + 1) mask_signals) m) q) new
    unfolding later
    signal_stored w = step_stored put1230 i (biases_at s (get_or l k 0 ∷ []) p) later (left_as put1230 d signal_left) put1230_on w

-- ---- the block, by its mask

block_cut : (s : List ℕ) (p : ℕ) {m : ℕ} {carried : List ℕ} → read_unsigned s p 4 ≡ Refused m carried → read_block1230 s p ≡ Refused m carried
unfolding read_block1230
block_cut s p e = rw e

block_read : (s : List ℕ) (p : ℕ) {m q : ℕ} → read_unsigned s p 4 ≡ Accepted (reading m q) → read_block1230 s p ≡ biases_at s (masked mask_signals m) q
unfolding read_block1230 biases_at
block_read s p {m} {q} e = rw e (go (read_each (twos 16) (length (masked mask_signals m)) s q))
  where
    go : (t : Told (Reading (List ℤ))) → as_records flat1230 (and_then t (λ zs. Accepted (reading {A = ℕ × List ℤ} (m, zs.value) zs.next))) ≡ as_records (records1230 (masked mask_signals m)) t
    go (Accepted zs) = refl
    go (Refused n carried) = refl

-- ---- the call

abbrev pub outcome_of : Told Counted → Lists1230 → Outcome Counted (List ℕ × List ℤ)
outcome_of a l = outcome a (l.signals, l.biases)

module _ (s : List ℕ) (p : ℕ) (gs : List ℕ) (zs : List ℤ) where
  pub too_long : 1023 < length s → outcome size (gs, zs) ≡ read1230 s p gs zs
  unfolding read1230
  too_long h = rw (lt-ltb _ _ h)

  module _ (few : length s ≤ 1023) where
    pub uneven : (length gs ≡ length zs → ⊥) → outcome size (gs, zs) ≡ read1230 s p gs zs
    unfolding read1230
    uneven d = rw (le-ltb _ _ few, ne_eqb _ _ d)

    module _ (e : length gs ≡ length zs) where
      -- the mask is cut short
      pub mask_cut : {m : ℕ} {carried : List ℕ} → read_unsigned s p 4 ≡ Refused m carried → outcome (Refused m carried) (gs, zs) ≡ read1230 s p gs zs
      unfolding read1230
      mask_cut k = rw (le-ltb _ _ few, eq-eqb _ _ e, block_cut s p k)

      -- it is there, and its biases lie behind it
      pub mask_read : {m q : ℕ} → read_unsigned s p 4 ≡ Accepted (reading m q) → read_masked s m q gs zs ≡ read1230 s p gs zs
      unfolding read1230 read_masked
      mask_read k = rw (le-ltb _ _ few, eq-eqb _ _ e, block_read s p k)

pub call1230 : (s : List ℕ) (m p : ℕ) (gs : List ℕ) (zs : List ℤ) → length gs ≡ length zs
    → Call put1230 outcome_of (lists1230 gs zs) (length gs) (biases_at s (masked mask_signals m) p) (read_masked s m p gs zs)
unfolding read_masked
call1230 s m p gs zs e =
    record {
      left = λ t. refusing (gs, zs) t (filled1230 gs zs);
      is = refl;
      refused = λ m carried. refl;
      accepted = λ r l. ap (outcome_of (Accepted (counted (length r.value) r.next))) (sym (put1230_front r.value gs zs l (sym e)));
    }
