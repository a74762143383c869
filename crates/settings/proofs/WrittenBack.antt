-- What one call reads the other writes back; what a reader of edition 1 never shows. Assumes nothing.
use mathlib.Core.Path.{◌≡◌, refl, sym, ap, ap₂, subst, ◌∙◌}
use mathlib.Core.Logic.{◌⊎◌, inl, inr}
use mathlib.Core.Bool.{Bool, true, false, cond, not}
use mathlib.Core.List.{List, [], ◌++◌}
use Prim.Native.Nat.{ℕ, zero, suc, ◌+◌, ◌-◌, ◌*◌, ◌/◌, ◌%◌, ◌^◌, ◌≤◌, ◌<◌}
use native.Mathlib.Nat.{zero-add}
use native.Mathlib.Omega.{arith}
use lib.ListN.{length, get_or, take, drop, length-drop, take-append-drop}
use lib.Seq.{take_at, take_all, get_or-take, length-take-le}
use lib.Dec.{ltb, eqb}
use borrow.Author.Tests.{eq-eqb, ne_eqb, eqb-true, eqb-false, ltb-true, ltb-false}
use Rattle.bits.specs.Told.{Told, Accepted, Refused}
use Rattle.bits.specs.Outcome.{Outcome, outcome, refusing}
use Rattle.bits.specs.Fields.{Bytes}
use Rattle.bits.specs.Crc.{crc, three_bytes, summed}
use Rattle.bits.specs.Onto.{onto}
use Rattle.bits.proofs.ThreeLaws.{back_three}
use Rattle.settings.specs.Block.{listed, known, bad, first_bad, entry_byte, list_byte, byte_of, block_of, edition_in, count_in, entry_place, number_in, priority_in, numbers_in, priorities_in}
use Rattle.settings.specs.Read.{can_read, zeros, bad_in, Found, found, judge, read_settings}
use Rattle.settings.specs.Write.{bad_of, write_settings}
use Rattle.settings.proofs.ListedLaws.{length_listed, get_d_listed, listed_self}
use Rattle.settings.proofs.LayoutLaws.{no_entry, high_byte, low_byte, priority_byte, pairs, triples, byte_0, byte_1, byte_2, byte_3, byte_later, place_first, place_second}
use Rattle.settings.proofs.ReadLaws.{passed, Accepts, judge_tells}
use Rattle.settings.proofs.WriteLaws.{is_written}
use Rattle.settings.proofs.WrittenLaws.{first_bad_ext}
use Rattle.settings.proofs.RoundTrip.{Writes, chain_tells, first_or}

-- ---- what is read is written back

zero_at : (s : List ℕ) (n i k : ℕ) → zeros s i n ≡ true → i ≤ k → k < i + n → get_or s k 0 ≡ 0
unfolding zeros
zero_at s zero i k z a b = absurd (omega arith)
zero_at s (suc n) i k z a b = go (eqb (get_or s i 0) 0) refl (zero_at s n (suc i) k) z
  where
    here : (c : Bool) → eqb k i ≡ c → get_or s i 0 ≡ 0 → (suc i ≤ k → get_or s k 0 ≡ 0) → get_or s k 0 ≡ 0
    here true p q later = ap (λ (j : ℕ). get_or s j 0) (eqb-true k i p) ∙ q
    here false p q later = later (omega (arith, eqb-false k i p))

    go : (c : Bool) → eqb (get_or s i 0) 0 ≡ c → (zeros s (suc i) n ≡ true → suc i ≤ k → k < suc i + n → get_or s k 0 ≡ 0)
        → cond c (zeros s (suc i) n) false ≡ true → get_or s k 0 ≡ 0
    go true p later y = here (eqb k i) refl (eqb-true _ _ p) (λ l. later y l (omega arith))
    go false p later y = let no : ◌≡◌ {A = ℕ} 0 1 = ap (λ (x : Bool). cond x 1 0) y in absurd (omega arith)

-- a reader reads editions 1 and 2 alone
read_known : (r e : ℕ) → can_read r e ≡ true → known e ≡ true
unfolding can_read known
read_known r e c = go (eqb e 1) (eqb e 2) (eqb r 1) (eqb r 2) c
  where
    go : (a b p q : Bool) → cond p a (cond q (cond a true b) false) ≡ true → cond a true b ≡ true
    go true b p q h = refl
    go false true p q h = refl
    go false false true q h = h
    go false false false true h = h
    go false false false false h = h

module _ (s : List ℕ) (bs : Bytes s) (reader index : ℕ) (f : Found) (t : Accepts s reader index f) where
  abbrev e : ℕ
  e = edition_in s

  abbrev n : ℕ
  n = count_in s

  abbrev ns : List ℕ
  ns = numbers_in s

  abbrev ps : List ℕ
  ps = priorities_in s

  numbers_length : length ns ≡ n
  numbers_length = length_listed (number_in s) n 0

  number_of : (k : ℕ) → k < n → get_or ns k 0 ≡ number_in s k
  number_of k h = get_d_listed (number_in s) n 0 k h ∙ ap (number_in s) (zero-add k)

  priority_of : (k : ℕ) → k < n → get_or ps k 0 ≡ priority_in s k
  priority_of k h = get_d_listed (priority_in s) n 0 k h ∙ ap (priority_in s) (zero-add k)

  -- ---- byte by byte

  module _ (k : ℕ) (h : k < n) where
    inside : k < length ns
    inside = omega (arith, numbers_length)

    entry_high : (i : ℕ) → entry_place e k ≡ i → entry_byte ns ps k 0 ≡ get_or s i 0
    entry_high i p =
        let a = bs.byte i in
        let b = bs.byte (i + 1) in
        let q : number_in s k ≡ get_or s i 0 * 2 ^ 8 + get_or s (i + 1) 0 = ap (λ (j : ℕ). get_or s j 0 * 2 ^ 8 + get_or s (j + 1) 0) p in
        sym (high_byte ns ps k 0 inside refl) ∙ ap (λ (m : ℕ). m / 2 ^ 8) (number_of k h ∙ q) ∙ omega (arith, a, b)

    entry_low : (i : ℕ) → entry_place e k + 1 ≡ i → entry_byte ns ps k 1 ≡ get_or s i 0
    entry_low i p =
        let a = bs.byte (entry_place e k + 1) in
        sym (low_byte ns ps k 1 inside refl) ∙ ap (λ (m : ℕ). m % 2 ^ 8) (number_of k h) ∙ omega (arith, a) ∙ ap (λ (j : ℕ). get_or s j 0) p

    entry_priority : (e ≡ 1 → ⊥) → (i : ℕ) → entry_place e k + 2 ≡ i → entry_byte ns ps k 2 ≡ get_or s i 0
    entry_priority o i p =
        let q : priority_in s k ≡ get_or s (entry_place e k + 2) 0 = simp (ne_eqb _ _ o) in
        sym (priority_byte ns ps k 2 inside (λ z. absurd (omega arith)) (λ z. absurd (omega arith))) ∙ priority_of k h ∙ q ∙ ap (λ (j : ℕ). get_or s j 0) p

  filler_at : (i : ℕ) → entry_place e n ≤ i → i < 509 → 0 ≡ get_or s i 0
  filler_at i a b = sym (zero_at s (509 - entry_place e n) (entry_place e n) i t.filler a (omega arith))

  none : (k j : ℕ) → n ≤ k → entry_byte ns ps k j ≡ 0
  none k j h = sym (no_entry ns ps k j (omega (arith, numbers_length)))

  below : (i j : ℕ) → (i < j) ⊎ (j ≤ i)
  below i j = go (ltb i j) refl
    where
      go : (b : Bool) → ltb i j ≡ b → (i < j) ⊎ (j ≤ i)
      go true p = inl (ltb-true i j p)
      go false p = inr (ltb-false i j p)

  first_byte : e ≡ 1 → (i k j : ℕ) → i ≡ 4 + (k * 2 + j) → j < 2 → i < 509 → entry_byte ns ps k j ≡ get_or s i 0
  first_byte o i k j q l b = go (below k n) j l q
    where
      place : (m : ℕ) → entry_place e m ≡ 4 + m * 2
      place m = sym (place_first e m o)

      go : (k < n) ⊎ (n ≤ k) → (j : ℕ) → j < 2 → i ≡ 4 + (k * 2 + j) → entry_byte ns ps k j ≡ get_or s i 0
      go (inl h) zero l q = entry_high k h i (place k ∙ omega arith)
      go (inl h) (suc zero) l q = entry_low k h i (omega (arith, place k))
      go (inl h) (suc (suc j)) l q = absurd (omega arith)
      go (inr h) j l q = none k j h ∙ filler_at i (omega (arith, place n)) b

  second_byte : (e ≡ 1 → ⊥) → (i k j : ℕ) → i ≡ 4 + (k * 3 + j) → j < 3 → i < 509 → entry_byte ns ps k j ≡ get_or s i 0
  second_byte o i k j q l b = go (below k n) j l q
    where
      place : (m : ℕ) → entry_place e m ≡ 4 + m * 3
      place m = sym (place_second e m o)

      go : (k < n) ⊎ (n ≤ k) → (j : ℕ) → j < 3 → i ≡ 4 + (k * 3 + j) → entry_byte ns ps k j ≡ get_or s i 0
      go (inl h) zero l q = entry_high k h i (place k ∙ omega arith)
      go (inl h) (suc zero) l q = entry_low k h i (omega (arith, place k))
      go (inl h) (suc (suc zero)) l q = entry_priority k h o i (omega (arith, place k))
      go (inl h) (suc (suc (suc j))) l q = absurd (omega arith)
      go (inr h) j l q = none k j h ∙ filler_at i (omega (arith, place n)) b

  list_byte_lem : (i : ℕ) → 4 ≤ i → i < 509 → list_byte e ns ps (i - 4) ≡ get_or s i 0
  list_byte_lem i a b = go (first_or e)
    where
      go : (e ≡ 1) ⊎ (e ≡ 1 → ⊥) → list_byte e ns ps (i - 4) ≡ get_or s i 0
      go (inl o) = sym (pairs e ns ps (i - 4) o) ∙ first_byte o i ((i - 4) / 2) ((i - 4) % 2) (omega arith) (omega arith) b
      go (inr o) = sym (triples e ns ps (i - 4) o) ∙ second_byte o i ((i - 4) / 3) ((i - 4) % 3) (omega arith) (omega arith) b

  index_low : index ≡ get_or s 0 0 * 2 ^ 8 + get_or s 1 0
  index_low = sym t.indexed

  byte_back : (i : ℕ) → i < 509 → get_or s i 0 ≡ byte_of e index ns ps i
  byte_back zero h = let a = bs.byte 0 in let b = bs.byte 1 in omega (arith, a, b, index_low) ∙ byte_0 e index ns ps 0 refl
  byte_back (suc zero) h = let a = bs.byte 1 in omega (arith, a, index_low) ∙ byte_1 e index ns ps 1 refl
  byte_back (suc (suc zero)) h = byte_2 e index ns ps 2 refl
  byte_back (suc (suc (suc zero))) h = sym numbers_length ∙ byte_3 e index ns ps 3 refl
  byte_back (suc (suc (suc (suc i)))) h =
      let j : ℕ = suc (suc (suc (suc i))) in
      sym (list_byte_lem j (omega arith) h) ∙ byte_later e index ns ps j (omega arith)

  -- ---- the block

  front_back : take 509 s ≡ listed (byte_of e index ns ps) 0 509
  front_back =
      listed_self (take 509 s) 509 (length-take-le 509 s (omega (arith, t.long))) (byte_of e index ns ps)
      (λ i h. get_or-take 509 s i 0 h ∙ byte_back i h)

  sum_back : drop 509 s ≡ three_bytes (crc (take 509 s))
  sum_back =
      let l : length (drop 509 s) ≡ 3 = length-drop 509 s ∙ omega (arith, t.long) in
      sym (take_all 3 (drop 509 s) (omega (arith, l))) ∙ back_three s 509 bs (omega (arith, t.long)) ∙ ap three_bytes t.sums

  block_back : block_of e index ns ps ≡ s
  unfolding block_of
  block_back =
      ap (λ (front : List ℕ). summed front) (sym front_back)
      ∙ ap (λ (tail : List ℕ). take 509 s ++ tail) (sym sum_back)
      ∙ take-append-drop 509 s

  may_back : (m : ℕ) → 512 ≤ m → Writes e index ns ps m
  may_back m h = record {
    edition = read_known reader e t.readable;
    equal = numbers_length ∙ sym (length_listed (priority_in s) n 0);
    counted = omega (arith, numbers_length, t.counted);
    indexed = omega (arith, bs.byte 0, bs.byte 1, index_low);
    good = omega (arith, numbers_length, t.good, same);
    room = h;
  }
    where
      same : bad_of e ns ps ≡ bad_in s
      same =
          ap (first_bad e (λ k. get_or ns k 0) (λ k. get_or ps k 0) 0) numbers_length
          ∙ first_bad_ext e (λ k. get_or ns k 0) (λ k. get_or ps k 0) (number_in s) (priority_in s) n 0
          (λ k a b. ap₂ (λ (m p : ℕ). bad e m p) (number_of k (omega arith)) (priority_of k (omega arith)))

  pub writes_back : (out : List ℕ) → 512 ≤ length out → write_settings e index ns ps out ≡ outcome (Accepted 512) (onto s out)
  writes_back out h =
      let w = may_back (length out) h in
      sym (is_written e index ns ps out w.edition w.equal w.counted w.indexed w.good h)
      ∙ ap (λ (b : List ℕ). outcome (Accepted 512) (onto b out)) block_back

-- ---- the calls

found_in : Told Found → Found
found_in (Accepted f) = f
found_in (Refused n carried) = found 0 0

module _ (s : List ℕ) (r x : ℕ) (us vs : List ℕ) where
  -- the refusals of reading, in their order
  abbrev refusals : Told Found
  refusals = cond (not (eqb (length us) 64)) (Refused 9 []) (cond (not (eqb (length vs) 64)) (Refused 9 []) (judge s r x))

  abbrev after : Found → Outcome Found (List ℕ × List ℕ)
  after f = outcome (Accepted f) (onto (numbers_in s) us, onto (priorities_in s) vs)

  is_chain : read_settings s r x us vs ≡ refusing (us, vs) refusals after
  unfolding read_settings
  is_chain = refl

  judged : (f : Found) → refusals ≡ Accepted f → Accepts s r x f
  judged f q =
      let a = passed (not (eqb (length us) 64)) 9 [] _ q in
      let b = passed (not (eqb (length vs) 64)) 9 [] _ a.1 in
      judge_tells s r x f b.1

  hidden_of : (told : Told Found) → ((f : Found) → told ≡ Accepted f → ⊥) → (refusing (us, vs) told after).areas ≡ (us, vs)
  hidden_of (Accepted f) never = absurd (never f refl)
  hidden_of (Refused n carried) never = refl

  -- A reader of edition 1 never shows a number of a block of another edition.
  pub never_shown : r ≡ 1 → (edition_in s ≡ 1 → ⊥) → (read_settings s r x us vs).areas ≡ (us, vs)
  unfolding can_read
  never_shown o n =
      ap (λ (u : Outcome Found (List ℕ × List ℕ)). u.areas) is_chain
      ∙ hidden_of refusals (λ f q.
      let c : eqb (edition_in s) 1 ≡ can_read r (edition_in s) = simp (eq-eqb _ _ o) in
      n (eqb-true _ _ (c ∙ (judged f q).readable)))

  module _ (f : Found) (q : (read_settings s r x us vs).answer ≡ Accepted f) where
    tells : (a : Found) × (refusals ≡ Accepted a) × (refusing (us, vs) refusals after ≡ after a)
    tells = chain_tells (us, vs) refusals after f (sym (ap (λ (u : Outcome Found (List ℕ × List ℕ)). u.answer) is_chain) ∙ q)

    whole : read_settings s r x us vs ≡ after tells.0
    whole = is_chain ∙ tells.2

    same_found_lem : tells.0 ≡ f
    unfolding found_in
    same_found_lem = ap found_in (sym (ap (λ (u : Outcome Found (List ℕ × List ℕ)). u.answer) whole) ∙ q)

    accepts : Accepts s r x f
    accepts = subst (Accepts s r x) same_found_lem (judged tells.0 tells.1)

    front_of : (g : ℕ → ℕ) (d : List ℕ) → take f.count (onto (listed g 0 (count_in s)) d) ≡ listed g 0 (count_in s)
    front_of g d =
        take_at (listed g 0 (count_in s)) (drop (length (listed g 0 (count_in s))) d) f.count
        (length_listed g (count_in s) 0 ∙ sym (ap (λ (h : Found). h.count) accepts.told))

    -- An accepted block is written back in its edition to the same bytes.
    pub read_writes : Bytes s → (out : List ℕ) → 512 ≤ length out
        → write_settings f.edition x (take f.count (read_settings s r x us vs).areas.0) (take f.count (read_settings s r x us vs).areas.1) out
        ≡ outcome (Accepted 512) (onto s out)
    read_writes b out h =
        let d : (read_settings s r x us vs).areas ≡ (onto (numbers_in s) us, onto (priorities_in s) vs) = ap (λ (u : Outcome Found (List ℕ × List ℕ)). u.areas) whole in
        ap (λ (e : ℕ). write_settings e x (take f.count (read_settings s r x us vs).areas.0) (take f.count (read_settings s r x us vs).areas.1) out) (ap (λ (g : Found). g.edition) accepts.told)
        ∙ ap (λ (p : List ℕ × List ℕ). write_settings (edition_in s) x (take f.count p.0) (take f.count p.1) out) d
        ∙ ap₂ (λ (m p : List ℕ). write_settings (edition_in s) x m p out) (front_of (number_in s) us) (front_of (priority_in s) vs)
        ∙ writes_back s b r x f accepts out h
