-- What a block that was written holds: its index, edition, count and entries, zeros behind them, and its checksum. Assumes nothing.
use mathlib.Core.Path.{◌≡◌, refl, sym, ap, ap₂, ◌∙◌}
use mathlib.Core.Bool.{Bool, true, cond}
use mathlib.Core.List.{List, ◌++◌}
use Prim.Native.Nat.{ℕ, zero, suc, ◌+◌, ◌-◌, ◌*◌, ◌/◌, ◌%◌, ◌^◌, ◌≤◌, ◌<◌}
use native.Mathlib.Omega.{arith}
use lib.ListN.{length, get_or, take, drop, length-append, get_or-append}
use lib.Seq.{take_at, drop_at}
use borrow.Author.Tests.{eq-eqb, ne_eqb}
use Rattle.bits.specs.Field.{field}
use Rattle.bits.specs.Crc.{crc, three_bytes}
use Rattle.bits.proofs.CrcLaws.{crc_below}
use Rattle.bits.proofs.PartLaws.{field_drop}
use Rattle.bits.proofs.ThreeLaws.{three_back}
use Rattle.settings.specs.Block.{listed, bad, first_bad, entry_byte, list_byte, byte_of, block_of, index_in, edition_in, count_in, entry_place, number_in, priority_in}
use Rattle.settings.specs.Read.{sent_sum, own_sum, zeros, filled}
use Rattle.settings.proofs.ListedLaws.{length_listed, get_d_listed}
use Rattle.settings.proofs.LayoutLaws.{no_entry, high_byte, low_byte, priority_byte, pairs, triples, byte_0, byte_1, byte_2, byte_3, byte_later, place_first, place_second}

-- ---- searches over two ways to name the same entries

pub first_bad_ext : (e : ℕ) (f g f' g' : ℕ → ℕ) (n i : ℕ) → ((k : ℕ) → i ≤ k → k < i + n → bad e (f k) (g k) ≡ bad e (f' k) (g' k))
    → first_bad e f g i n ≡ first_bad e f' g' i n
unfolding first_bad
first_bad_ext e f g f' g' zero i h = refl
first_bad_ext e f g f' g' (suc n) i h =
    ap₂ (λ (b : Bool) (k : ℕ). cond b i k) (h i (omega arith) (omega arith))
    (first_bad_ext e f g f' g' n (suc i) (λ k a b. h k (omega arith) (omega arith)))

pub all_zeros : (s : List ℕ) (n i : ℕ) → ((k : ℕ) → i ≤ k → k < i + n → get_or s k 0 ≡ 0) → zeros s i n ≡ true
unfolding zeros
all_zeros s zero i h = refl
all_zeros s (suc n) i h =
    let z : get_or s i 0 ≡ 0 = h i (omega arith) (omega arith) in
    rw (eq-eqb (get_or s i 0) 0 z) (all_zeros s n (suc i) (λ k a b. h k (omega arith) (omega arith)))

-- in edition 1 a priority does not matter
pub bad_first : (e n p q : ℕ) → e ≡ 1 → bad e n p ≡ bad e n q
bad_first e n p q o = simp (eq-eqb _ _ o)

module _ (e x : ℕ) (ns ps : List ℕ) where
  abbrev front : List ℕ
  front = listed (byte_of e x ns ps) 0 509

  abbrev s : List ℕ
  s = block_of e x ns ps

  front_length : length front ≡ 509
  front_length = length_listed (byte_of e x ns ps) 509 0

  is_summed : s ≡ front ++ three_bytes (crc front)
  unfolding block_of
  is_summed = refl

  pub written_length : length s ≡ 512
  written_length = ap length is_summed ∙ length-append front (three_bytes (crc front)) ∙ ap (λ (n : ℕ). n + 3) front_length

  -- ---- the checksum

  own_sum_lem : own_sum s ≡ crc front
  own_sum_lem = ap (λ (t : List ℕ). crc (take 509 t)) is_summed ∙ ap crc (take_at front (three_bytes (crc front)) 509 front_length)

  pub sums_agree : sent_sum s ≡ own_sum s
  sums_agree =
      sym (field_drop 509 s 0 24)
      ∙ ap (λ (t : List ℕ). field t 0 24) (ap (drop 509) is_summed ∙ drop_at front (three_bytes (crc front)) 509 front_length)
      ∙ three_back (crc front) (crc_below front)
      ∙ sym own_sum_lem

  -- ---- the bytes before it

  byte_at : (i : ℕ) → i < 509 → get_or s i 0 ≡ byte_of e x ns ps i
  byte_at i h =
      ap (λ (t : List ℕ). get_or t i 0) is_summed
      ∙ get_or-append front (three_bytes (crc front)) 0 i (omega (arith, front_length))
      ∙ get_d_listed (byte_of e x ns ps) 509 0 i h
      ∙ ap (byte_of e x ns ps) (omega arith)

  pub written_index : x ≤ 65535 → index_in s ≡ x
  written_index h =
      ap₂ (λ (a b : ℕ). a * 2 ^ 8 + b) (byte_at 0 (omega arith) ∙ sym (byte_0 e x ns ps 0 refl)) (byte_at 1 (omega arith) ∙ sym (byte_1 e x ns ps 1 refl))
      ∙ omega arith

  pub written_edition : edition_in s ≡ e
  written_edition = byte_at 2 (omega arith) ∙ sym (byte_2 e x ns ps 2 refl)

  pub written_count : count_in s ≡ length ns
  written_count = byte_at 3 (omega arith) ∙ sym (byte_3 e x ns ps 3 refl)

  -- byte j of entry k, where k entries of w bytes come before it
  list_at : (i j : ℕ) → i ≡ 4 + j → j < 505 → get_or s i 0 ≡ list_byte e ns ps j
  list_at i j q h =
      byte_at i (omega arith) ∙ sym (byte_later e x ns ps i (omega arith)) ∙ ap (list_byte e ns ps) (omega arith)

  first_at_place : e ≡ 1 → (k j : ℕ) → j < 2 → k * 2 + j < 505 → (i : ℕ) → i ≡ 4 + (k * 2 + j) → get_or s i 0 ≡ entry_byte ns ps k j
  first_at_place o k j hj h i q =
      list_at i (k * 2 + j) q h ∙ sym (pairs e ns ps (k * 2 + j) o) ∙ ap₂ (entry_byte ns ps) (omega arith) (omega arith)

  second_at : (e ≡ 1 → ⊥) → (k j : ℕ) → j < 3 → k * 3 + j < 505 → (i : ℕ) → i ≡ 4 + (k * 3 + j) → get_or s i 0 ≡ entry_byte ns ps k j
  second_at n k j hj h i q =
      list_at i (k * 3 + j) q h ∙ sym (triples e ns ps (k * 3 + j) n) ∙ ap₂ (entry_byte ns ps) (omega arith) (omega arith)

  -- ---- the entries

  module _ (l : length ns ≤ 64) (k : ℕ) (h : k < length ns) where
    from_bytes : (i : ℕ) → get_or s i 0 ≡ entry_byte ns ps k 0 → get_or s (i + 1) 0 ≡ entry_byte ns ps k 1 → entry_place (edition_in s) k ≡ i → number_in s k ≡ get_or ns k 0
    from_bytes i a b p =
        ap (λ (j : ℕ). get_or s j 0 * 2 ^ 8 + get_or s (j + 1) 0) p
        ∙ ap₂ (λ (m n : ℕ). m * 2 ^ 8 + n) (a ∙ sym (high_byte ns ps k 0 h refl)) (b ∙ sym (low_byte ns ps k 1 h refl))
        ∙ omega arith

    pub first_number : e ≡ 1 → number_in s k ≡ get_or ns k 0
    first_number o =
        from_bytes (4 + k * 2) (first_at_place o k 0 (omega arith) (omega arith) _ (omega arith)) (first_at_place o k 1 (omega arith) (omega arith) _ (omega arith))
        (sym (place_first (edition_in s) k (written_edition ∙ o)))

    pub second_number : (e ≡ 1 → ⊥) → number_in s k ≡ get_or ns k 0
    second_number n =
        from_bytes (4 + k * 3) (second_at n k 0 (omega arith) (omega arith) _ (omega arith)) (second_at n k 1 (omega arith) (omega arith) _ (omega arith))
        (sym (place_second (edition_in s) k (λ o. n (sym written_edition ∙ o))))

    pub second_priority : (e ≡ 1 → ⊥) → priority_in s k ≡ get_or ps k 0
    second_priority n =
        let m : edition_in s ≡ 1 → ⊥ = λ o. n (sym written_edition ∙ o) in
        let p : entry_place (edition_in s) k ≡ 4 + k * 3 = sym (place_second (edition_in s) k m) in
        let q : priority_in s k ≡ get_or s (entry_place (edition_in s) k + 2) 0 = simp (ne_eqb _ _ m) in
        q ∙ ap (λ (j : ℕ). get_or s (j + 2) 0) p ∙ second_at n k 2 (omega arith) (omega arith) _ (omega arith)
        ∙ sym (priority_byte ns ps k 2 h (λ z. absurd (omega arith)) (λ z. absurd (omega arith)))

  pub first_priority : (k : ℕ) → e ≡ 1 → priority_in s k ≡ 0
  first_priority k o = let z : edition_in s ≡ 1 = written_edition ∙ o in simp (eq-eqb _ _ z)

  -- ---- the filler

  module _ (l : length ns ≤ 64) where
    zero_first : e ≡ 1 → (i : ℕ) → 4 + length ns * 2 ≤ i → i < 509 → get_or s i 0 ≡ 0
    zero_first o i a b =
        list_at i (i - 4) (omega arith) (omega arith) ∙ sym (pairs e ns ps (i - 4) o)
        ∙ sym (no_entry ns ps ((i - 4) / 2) ((i - 4) % 2) (omega arith))

    zero_second : (e ≡ 1 → ⊥) → (i : ℕ) → 4 + length ns * 3 ≤ i → i < 509 → get_or s i 0 ≡ 0
    zero_second n i a b =
        list_at i (i - 4) (omega arith) (omega arith) ∙ sym (triples e ns ps (i - 4) n)
        ∙ sym (no_entry ns ps ((i - 4) / 3) ((i - 4) % 3) (omega arith))

    from_place : (p : ℕ) → entry_place (edition_in s) (count_in s) ≡ p → ((i : ℕ) → p ≤ i → i < 509 → get_or s i 0 ≡ 0) → filled s ≡ true
    from_place p q z = ap (λ (i : ℕ). zeros s i (509 - i)) q ∙ all_zeros s (509 - p) p (λ k a b. z k a (omega arith))

    pub first_filled : e ≡ 1 → filled s ≡ true
    first_filled o =
        from_place (4 + length ns * 2) (sym (place_first (edition_in s) (count_in s) (written_edition ∙ o)) ∙ ap (λ (n : ℕ). 4 + n * 2) written_count) (zero_first o)

    pub second_filled : (e ≡ 1 → ⊥) → filled s ≡ true
    second_filled n =
        from_place (4 + length ns * 3)
        (sym (place_second (edition_in s) (count_in s) (λ o. n (sym written_edition ∙ o))) ∙ ap (λ (n : ℕ). 4 + n * 3) written_count)
        (zero_second n)
