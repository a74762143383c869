-- What one call writes the other reads; equal settings give equal blocks. Assumes nothing.
use mathlib.Core.Path.{◌≡◌, refl, sym, ap, ap₂, ◌∙◌}
use mathlib.Core.Logic.{◌⊎◌, inl, inr}
use mathlib.Core.Bool.{Bool, true, false, cond, not}
use mathlib.Core.List.{List, []}
use Prim.Native.Nat.{ℕ, ◌≤◌, ◌<◌}
use native.Mathlib.Omega.{arith}
use lib.ListN.{length, get_or, take, drop}
use lib.Seq.{take_at}
use lib.Dec.{ltb, eqb}
use borrow.Author.Tests.{eq-eqb, ne_eqb, eqb-true, eqb-false, ltb-false, not-false}
use Rattle.bits.specs.Told.{Told, Accepted, Refused}
use Rattle.bits.specs.Outcome.{Outcome, outcome, refusing}
use Rattle.bits.specs.Onto.{onto}
use Rattle.settings.specs.Block.{listed, known, bad, first_bad, block_of, number_in, priority_in, numbers_in, priorities_in}
use Rattle.settings.specs.Read.{sent_sum, own_sum, can_read, filled, bad_in, found, judge, read_settings}
use Rattle.settings.specs.Write.{bad_of, may_write, write_settings}
use Rattle.settings.proofs.ListedLaws.{listed_self, listed_ext}
use Rattle.settings.proofs.ReadLaws.{is_filled, by_entries, passed}
use Rattle.settings.proofs.WrittenLaws.{first_bad_ext, bad_first, written_length, sums_agree, written_index, written_edition, written_count, first_number, second_number, first_priority, second_priority, first_filled, second_filled}

-- ---- accepted writes

-- what a write that is accepted was given
pub record Writes (e x : ℕ) (ns ps : List ℕ) (n : ℕ) : Type 0 where
  pub edition : known e ≡ true
  pub equal : length ns ≡ length ps
  pub counted : length ns ≤ 64
  pub indexed : x ≤ 65535
  pub good : length ns ≤ bad_of e ns ps
  pub room : 512 ≤ n

pub may_tells : (e x : ℕ) (ns ps : List ℕ) (n m : ℕ) → may_write e x ns ps n ≡ Accepted m → Writes e x ns ps n
unfolding may_write
may_tells e x ns ps n m q =
    let a = passed (not (known e)) 13 [] _ q in
    let b = passed (not (eqb (length ns) (length ps))) 9 [] _ a.1 in
    let c = passed (ltb 64 (length ns)) 9 [] _ b.1 in
    let d = passed (ltb 65535 x) 3 _ _ c.1 in
    let f = passed (ltb (bad_of e ns ps) (length ns)) 3 _ _ d.1 in
    let g = passed (ltb n 512) 8 _ _ f.1 in
    record {
      edition = not-false _ a.0;
      equal = eqb-true _ _ (not-false _ b.0);
      counted = ltb-false _ _ c.0;
      indexed = ltb-false _ _ d.0;
      good = ltb-false _ _ f.0;
      room = ltb-false _ _ g.0;
    }

-- an accepted outcome of a chain of refusals: the chain accepted, and what followed is the outcome
pub chain_tells : {A B S : Type 0} (before : S) (told : Told A) (onward : A → Outcome B S) (b : B) → (refusing before told onward).answer ≡ Accepted b
    → (a : A) × (told ≡ Accepted a) × (refusing before told onward ≡ onward a)
chain_tells before (Accepted a) onward b e = (a, refl, refl)
chain_tells before (Refused n carried) onward b e = let no : ◌≡◌ {A = ℕ} 0 1 = cc in absurd (omega arith)

module _ (e x : ℕ) (ns ps out : List ℕ) (m : ℕ) (q : (write_settings e x ns ps out).answer ≡ Accepted m) where
  pub write_tells : Writes e x ns ps (length out)
  unfolding write_settings
  write_tells =
      let t = chain_tells out (may_write e x ns ps (length out)) (λ n. outcome (Accepted n) (onto (block_of e x ns ps) out)) m q in
      may_tells e x ns ps (length out) t.0 t.1

  -- the first 512 bytes of the output are then the block
  pub written_block : take 512 (write_settings e x ns ps out).areas ≡ block_of e x ns ps
  unfolding write_settings
  written_block =
      let t = chain_tells out (may_write e x ns ps (length out)) (λ n. outcome (Accepted n) (onto (block_of e x ns ps) out)) m q in
      ap (λ (o : Outcome ℕ (List ℕ)). take 512 o.areas) t.2
      ∙ take_at (block_of e x ns ps) (drop (length (block_of e x ns ps)) out) 512 (written_length e x ns ps)

-- Equal settings, index and edition give equal blocks, whatever stood in the outputs before.
pub equal_blocks : (e x : ℕ) (ns ps out out' : List ℕ) (m m' : ℕ)
    → (write_settings e x ns ps out).answer ≡ Accepted m → (write_settings e x ns ps out').answer ≡ Accepted m'
    → take 512 (write_settings e x ns ps out).areas ≡ take 512 (write_settings e x ns ps out').areas
equal_blocks e x ns ps out out' m m' q q' = written_block e x ns ps out m q ∙ sym (written_block e x ns ps out' m' q')

-- ---- editions

-- what a reader reads is edition 1, or not edition 1
pub first_or : (e : ℕ) → (e ≡ 1) ⊎ (e ≡ 1 → ⊥)
first_or e = go (eqb e 1) refl
  where
    go : (b : Bool) → eqb e 1 ≡ b → (e ≡ 1) ⊎ (e ≡ 1 → ⊥)
    go true p = inl (eqb-true e 1 p)
    go false p = inr (eqb-false e 1 p)

-- the priorities that reading shows of n numbers: those written, and zeros in edition 1
pub shown : ℕ → List ℕ → ℕ → ℕ
shown e ps k = cond (eqb e 1) 0 (get_or ps k 0)

-- ---- what is written reads back

module _ (e x : ℕ) (ns ps : List ℕ) (n : ℕ) (w : Writes e x ns ps n) where
  abbrev s : List ℕ
  s = block_of e x ns ps

  number_back : (k : ℕ) → k < length ns → number_in s k ≡ get_or ns k 0
  number_back k h = go (first_or e)
    where
      go : (e ≡ 1) ⊎ (e ≡ 1 → ⊥) → number_in s k ≡ get_or ns k 0
      go (inl o) = first_number e x ns ps w.counted k h o
      go (inr o) = second_number e x ns ps w.counted k h o

  priority_back : (k : ℕ) → k < length ns → priority_in s k ≡ shown e ps k
  unfolding shown
  priority_back k h = go (first_or e)
    where
      go : (e ≡ 1) ⊎ (e ≡ 1 → ⊥) → priority_in s k ≡ cond (eqb e 1) 0 (get_or ps k 0)
      go (inl o) = first_priority e x ns ps k o ∙ simp (eq-eqb _ _ o)
      go (inr o) = second_priority e x ns ps w.counted k h o ∙ simp (ne_eqb _ _ o)

  bad_back : (k : ℕ) → k < length ns → bad e (number_in s k) (priority_in s k) ≡ bad e (get_or ns k 0) (get_or ps k 0)
  bad_back k h = ap (λ (m : ℕ). bad e m (priority_in s k)) (number_back k h) ∙ go (first_or e)
    where
      go : (e ≡ 1) ⊎ (e ≡ 1 → ⊥) → bad e (get_or ns k 0) (priority_in s k) ≡ bad e (get_or ns k 0) (get_or ps k 0)
      go (inl o) = bad_first e (get_or ns k 0) (priority_in s k) (get_or ps k 0) o
      go (inr o) = ap (λ (p : ℕ). bad e (get_or ns k 0) p) (second_priority e x ns ps w.counted k h o)

  same_bad : bad_in s ≡ bad_of e ns ps
  same_bad =
      ap₂ (λ (d m : ℕ). first_bad d (number_in s) (priority_in s) 0 m) (written_edition e x ns ps) (written_count e x ns ps)
      ∙ first_bad_ext e (number_in s) (priority_in s) (λ k. get_or ns k 0) (λ k. get_or ps k 0) (length ns) 0 (λ k a b. bad_back k (omega arith))

  filled_back : filled s ≡ true
  filled_back = go (first_or e)
    where
      go : (e ≡ 1) ⊎ (e ≡ 1 → ⊥) → filled s ≡ true
      go (inl o) = first_filled e x ns ps w.counted o
      go (inr o) = second_filled e x ns ps w.counted o

  judged_back : (r : ℕ) → can_read r e ≡ true → judge s r x ≡ Accepted (found (length ns) e)
  judged_back r c =
      sym (is_filled s (omega (arith, same_bad, w.good, written_count e x ns ps)) (length ns) e (sym (written_count e x ns ps)) (sym (written_edition e x ns ps)) filled_back
      ∙ by_entries s r x (written_length e x ns ps) (sent_sum s) (own_sum s) refl refl (sums_agree e x ns ps)
      (ap (can_read r) (written_edition e x ns ps) ∙ c) (written_index e x ns ps w.indexed) (omega (arith, written_count e x ns ps, w.counted)))

  numbers_back : numbers_in s ≡ ns
  numbers_back =
      ap (listed (number_in s) 0) (written_count e x ns ps)
      ∙ sym (listed_self ns (length ns) refl (number_in s) (λ i h. sym (number_back i h)))

  priorities_back : priorities_in s ≡ listed (shown e ps) 0 (length ns)
  priorities_back = ap (listed (priority_in s) 0) (written_count e x ns ps) ∙ listed_ext (priority_in s) (shown e ps) (length ns) priority_back

  pub reads_back : (r : ℕ) → can_read r e ≡ true → (us vs : List ℕ) → length us ≡ 64 → length vs ≡ 64
      → read_settings s r x us vs ≡ outcome (Accepted (found (length ns) e)) (onto ns us, onto (listed (shown e ps) 0 (length ns)) vs)
  unfolding read_settings
  reads_back r c us vs la lb =
      let all : read_settings s r x us vs ≡ outcome (Accepted (found (length ns) e)) (onto (numbers_in s) us, onto (priorities_in s) vs) = simp (eq-eqb _ _ la, eq-eqb _ _ lb, judged_back r c) in
      all
      ∙ ap₂ (λ (a b : List ℕ). outcome (Accepted (found (length ns) e)) (onto a us, onto b vs)) numbers_back priorities_back

-- What was written is read by every reader of its edition: the numbers, and the priorities, which are zeros in edition 1.
pub written_reads : (e x : ℕ) (ns ps out : List ℕ) (m : ℕ) → (write_settings e x ns ps out).answer ≡ Accepted m
    → (r : ℕ) → can_read r e ≡ true → (us vs : List ℕ) → length us ≡ 64 → length vs ≡ 64
    → read_settings (take 512 (write_settings e x ns ps out).areas) r x us vs
    ≡ outcome (Accepted (found (length ns) e)) (onto ns us, onto (listed (shown e ps) 0 (length ns)) vs)
written_reads e x ns ps out m q r c us vs la lb =
    ap (λ (t : List ℕ). read_settings t r x us vs) (written_block e x ns ps out m q)
    ∙ reads_back e x ns ps (length out) (write_tells e x ns ps out m q) r c us vs la lb
