-- Which case of reading holds. Assumes nothing.
use mathlib.Core.Path.{◌≡◌, refl, sym, ap, ap₂, ◌∙◌}
use mathlib.Core.Bool.{Bool, true, false, cond, not, true≢false}
use mathlib.Core.List.{List, []}
use Prim.Native.Nat.{ℕ, ◌-◌, ◌≤◌, ◌<◌}
use native.Mathlib.Omega.{arith}
use lib.ListN.{length}
use lib.Dec.{ltb, eqb}
use borrow.Author.Tests.{lt-ltb, le-ltb, eq-eqb, ne_eqb, eqb-true, ltb-false, not-false}
use Rattle.bits.specs.Told.{Told, Accepted, Refused, size, kind, range, bad_check}
use Rattle.bits.specs.Outcome.{Outcome, outcome, refusing}
use Rattle.bits.specs.Onto.{onto}
use Rattle.settings.specs.Block.{index_in, edition_in, count_in, entry_place, numbers_in, priorities_in}
use Rattle.settings.specs.Read.{sent_sum, own_sum, can_read, zeros, filled, bad_in, Found, found, judge_entries, judge, read_settings}
use Rattle.settings.specs.Answers.{told_read}
use Rattle.settings.specs.declared.read.Settings.{Settings}
use Rattle.settings.specs.declared.entries.Entries.{Entries}
use Rattle.settings.specs.Entries.{found_in}
use Rattle.bits.specs.Refusals.{told, number_of, carried_by}
use Rattle.bits.specs.declared.refusal.Refusal.{Refusal}
use Rattle.bits.specs.declared.refusal.Refusal.TheVariants.{Kind}
use Rattle.settings.specs.Edition.{number_of as number_of_edition}
use Rattle.settings.specs.declared.layout.Edition.{Edition}
use Rattle.settings.specs.Block.{known}
use Rattle.std.specs.Prelude.{Result, Ok, Err, IsErrAnd, MatchResult}

-- ---- which editions a reader reads

module _ (reader edition : ℕ) where
  pub no_reader : known reader ≡ false → can_read reader edition ≡ false
  unfolding can_read known
  no_reader k = go (eqb reader 1) (eqb reader 2) k
    where
      go : (a b : Bool) → cond a true b ≡ false → cond a (eqb edition 1) (cond b (cond (eqb edition 1) true (eqb edition 2)) false) ≡ false
      go true b e = absurd (true≢false e)
      go false true e = absurd (true≢false e)
      go false false e = refl

  pub no_edition : known edition ≡ false → can_read reader edition ≡ false
  unfolding can_read known
  no_edition k = go (eqb edition 1) (eqb edition 2) k (eqb reader 1) (eqb reader 2)
    where
      go : (a b : Bool) → cond a true b ≡ false → (c d : Bool) → cond c a (cond d (cond a true b) false) ≡ false
      go true b e c d = absurd (true≢false e)
      go false true e c d = absurd (true≢false e)
      go false false e true d = refl
      go false false e false true = refl
      go false false e false false = refl

  pub not_readable : can_read reader edition ≡ false → (r : Result Edition Refusal) (x : Refusal) → IsErrAnd r (λ e. e ≡ x) → x ≡ Kind
      → MatchResult r (λ e. (number_of_edition e ≡ edition) × (can_read reader edition ≡ true)) (λ y. (y ≡ Kind) × (can_read reader edition ≡ false))
  not_readable f (Err y) x p q = (p ∙ q, f)
  not_readable f (Ok e) x p q = absurd p

-- ---- the entries

module _ (s : List ℕ) where
  pub entry_bad : (k : ℕ) → k ≡ bad_in s → k < count_in s → range k ≡ judge_entries s
  unfolding judge_entries
  entry_bad k q h = let l : bad_in s < count_in s = omega arith in ap range q ∙ simp (lt-ltb _ _ l)

  module _ (h : count_in s ≤ bad_in s) where
    pub not_filled : filled s ≡ false → range 0 ≡ judge_entries s
    unfolding judge_entries
    not_filled f = simp (le-ltb _ _ h, f)

    pub is_filled : (n e : ℕ) → n ≡ count_in s → e ≡ edition_in s → filled s ≡ true → Accepted (found n e) ≡ judge_entries s
    unfolding judge_entries
    is_filled n e c d f = ap₂ (λ (x y : ℕ). Accepted (found x y)) c d ∙ simp (le-ltb _ _ h, f)

-- the filler from place `at` on
pub filled_at : (s : List ℕ) (e n at : ℕ) → at ≡ entry_place e n → e ≡ edition_in s → n ≡ count_in s → zeros s at (509 - at) ≡ filled s
filled_at s e n at p q c = ap (λ (i : ℕ). zeros s i (509 - i)) (p ∙ ap₂ entry_place q c)

-- an edition that is not read is told as Kind
pub kind_told : (r : Result Entries Refusal) (x : Refusal) → IsErrAnd r (λ e. e ≡ x) → x ≡ Kind → told found_in r ≡ kind
kind_told (Err y) x p q = ap (λ (z : Refusal). Refused (number_of z) (carried_by z)) (p ∙ q)
kind_told (Ok v) x p q = absurd p

-- ---- the block

module _ (s : List ℕ) (reader index : ℕ) where
  pub bad_length : (length s ≡ 512 → ⊥) → size ≡ judge s reader index
  unfolding judge
  bad_length n = simp (ne_eqb _ _ n)

  module _ (l : length s ≡ 512) (sent own : ℕ) (a : sent ≡ sent_sum s) (b : own ≡ own_sum s) where
    pub bad_sum : (sent ≡ own → ⊥) → bad_check sent own ≡ judge s reader index
    unfolding judge
    bad_sum n = let m : sent_sum s ≡ own_sum s → ⊥ = λ e. n (a ∙ e ∙ sym b) in ap₂ bad_check a b ∙ simp (eq-eqb _ _ l, ne_eqb _ _ m)

    module _ (q : sent ≡ own) where
      same : sent_sum s ≡ own_sum s
      same = sym a ∙ q ∙ b

      pub bad_edition : can_read reader (edition_in s) ≡ false → kind ≡ judge s reader index
      unfolding judge
      bad_edition k = simp (eq-eqb _ _ l, eq-eqb _ _ same, k)

      module _ (k : can_read reader (edition_in s) ≡ true) where
        pub bad_index : (index_in s ≡ index → ⊥) → range 0 ≡ judge s reader index
        unfolding judge
        bad_index n = simp (eq-eqb _ _ l, eq-eqb _ _ same, k, ne_eqb _ _ n)

        module _ (i : index_in s ≡ index) where
          pub bad_count : 64 < count_in s → range 0 ≡ judge s reader index
          unfolding judge
          bad_count h = simp (eq-eqb _ _ l, eq-eqb _ _ same, k, eq-eqb _ _ i, lt-ltb _ _ h)

          pub by_entries : count_in s ≤ 64 → judge_entries s ≡ judge s reader index
          unfolding judge
          by_entries h = simp (eq-eqb _ _ l, eq-eqb _ _ same, k, eq-eqb _ _ i, le-ltb _ _ h)

-- ---- what an accepted block is

-- a refusal that was passed was not given
pub passed : {A : Type 0} (b : Bool) (n : ℕ) (carried : List ℕ) (y : Told A) {a : A} → cond b (Refused n carried) y ≡ Accepted a → (b ≡ false) × (y ≡ Accepted a)
passed true n carried y e = let no : ◌≡◌ {A = ℕ} 0 1 = cc in absurd (omega arith)
passed false n carried y e = (refl, e)

-- the block s is one that the reader accepts, and f is what it tells
pub record Accepts (s : List ℕ) (reader index : ℕ) (f : Found) : Type 0 where
  pub long : length s ≡ 512
  pub sums : sent_sum s ≡ own_sum s
  pub readable : can_read reader (edition_in s) ≡ true
  pub indexed : index_in s ≡ index
  pub counted : count_in s ≤ 64
  pub good : count_in s ≤ bad_in s
  pub filler : filled s ≡ true
  pub told : f ≡ found (count_in s) (edition_in s)

found_of : Told Found → Found
found_of (Accepted f) = f
found_of (Refused n carried) = found 0 0

pub judge_tells : (s : List ℕ) (reader index : ℕ) (f : Found) → judge s reader index ≡ Accepted f → Accepts s reader index f
unfolding judge judge_entries found_of
judge_tells s reader index f e =
    let a = passed (not (eqb (length s) 512)) 9 [] _ e in
    let b = passed (not (eqb (sent_sum s) (own_sum s))) 14 _ _ a.1 in
    let c = passed (not (can_read reader (edition_in s))) 13 [] _ b.1 in
    let d = passed (not (eqb (index_in s) index)) 3 _ _ c.1 in
    let g = passed (ltb 64 (count_in s)) 3 _ _ d.1 in
    let h = passed (ltb (bad_in s) (count_in s)) 3 _ _ g.1 in
    let i = passed (not (filled s)) 3 _ _ h.1 in
    record {
      long = eqb-true _ _ (not-false _ a.0);
      sums = eqb-true _ _ (not-false _ b.0);
      readable = not-false _ c.0;
      indexed = eqb-true _ _ (not-false _ d.0);
      counted = ltb-false _ _ g.0;
      good = ltb-false _ _ h.0;
      filler = not-false _ i.0;
      told = ap found_of (sym i.1);
    }

-- ---- the lists

module _ (s : List ℕ) (reader index : ℕ) (numbers priorities : List ℕ) where
  pub bad_numbers : (length numbers ≡ 64 → ⊥) → outcome size (numbers, priorities) ≡ read_settings s reader index numbers priorities
  unfolding read_settings
  bad_numbers n = simp (ne_eqb _ _ n)

  module _ (l : length numbers ≡ 64) where
    pub bad_priorities : (length priorities ≡ 64 → ⊥) → outcome size (numbers, priorities) ≡ read_settings s reader index numbers priorities
    unfolding read_settings
    bad_priorities n = simp (eq-eqb _ _ l, ne_eqb _ _ n)

    module _ (m : length priorities ≡ 64) where
      abbrev After : Found → Outcome Found (List ℕ × List ℕ)
      After f = outcome (Accepted f) (onto (numbers_in s) numbers, onto (priorities_in s) priorities)

      whole : refusing (numbers, priorities) (judge s reader index) After ≡ read_settings s reader index numbers priorities
      unfolding read_settings
      whole = simp (eq-eqb _ _ l, eq-eqb _ _ m)

      module _ (r : Result Entries Refusal) (q : told found_in r ≡ judge s reader index) where
        -- a refusal of the block is handed on
        pub refused_read : (x : Refusal) → r ≡ Err x → (t : Result Settings Refusal) → IsErrAnd t (λ e. e ≡ x)
            → outcome (told_read t) (numbers, priorities) ≡ read_settings s reader index numbers priorities
        refused_read x e (Err y) g =
            ap (λ (z : Refusal). outcome (Refused (number_of z) (carried_by z)) (numbers, priorities)) g
            ∙ ap (λ (t : Told Found). refusing (numbers, priorities) t After) (sym (ap (told found_in) e) ∙ q)
            ∙ whole
        refused_read x e (Ok v) g = absurd g

        pub accepted_read : (b : Entries) → r ≡ Ok b → (a c : List ℕ) → a ≡ onto (numbers_in s) numbers → c ≡ onto (priorities_in s) priorities
            → outcome (Accepted (found_in b)) (a, c) ≡ read_settings s reader index numbers priorities
        accepted_read b e a c x y =
            ap₂ (λ (m n : List ℕ). outcome (Accepted (found_in b)) (m, n)) x y
            ∙ ap (λ (t : Told Found). refusing (numbers, priorities) t After) (sym (ap (told found_in) e) ∙ q)
            ∙ whole
