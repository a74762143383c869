-- The counts of the satellites, and the tests on them. Assumes nothing.
use mathlib.Core.Path.{◌≡◌, refl, sym, ap, ap₂, ◌∙◌}
use mathlib.Core.Bool.{Bool, true, false, cond, not}
use mathlib.Core.List.{List, [], ◌∷◌}
use Prim.Native.Nat.{ℕ, zero, suc, ◌+◌, ◌*◌, ◌≤◌, ◌<◌}
use native.Mathlib.Numerals.{add-one}
use native.Mathlib.Omega.{arith}
use borrow.Author.Tests.{lt-ltb, le-ltb, ltb-false}
use lib.Dec.{eqb, ltb}
use lib.ListN.{length, drop, get_or, drop_of_length-le}
use lib.Seq.{drop-cons}
use Rattle.std.specs.Prelude.{count_by}
use Rattle.std.proofs.lemmas.List.Recursion.{is_count_by}
use Rattle.bits.specs.Told.{Told, too_many}
use Rattle.bits.specs.Fields.{total}
use Rattle.bits.proofs.FieldsLaws.{total_next}
use Rattle.formats.specs.Written.{fine}
use Rattle.messages.specs.Every.{Every}
use Rattle.messages.specs.Records.{Rec1059, satellite_of}
use Rattle.messages.specs.Layout1059.{of_satellite, grouped1059}
use Rattle.messages.specs.Write1059.{crowded, present, fields1059}
use Rattle.messages.specs.StepsWrite1059.{satellites_from, crowded_in, present_in}
use Rattle.messages.proofs.Layout1059Laws.{same_count, fields_laid}
use Rattle.messages.proofs.Grouped1059Laws.{flat_grouped}
use Rattle.messages.proofs.Fits1059Laws.{total_satellites}
use Rattle.messages.proofs.InOrderLaws.{in_order_1059}

-- ---- the counts from satellite a on, as the code goes through them

module _ (cs : List ℕ) (a : ℕ) (h : a < length cs) where
  crowded_cons : crowded_in a (drop a cs) ≡ cond (ltb 31 (get_or cs a 0)) (too_many a) (crowded_in (suc a) (drop (suc a) cs))
  unfolding crowded_in
  crowded_cons = ap (crowded_in a) (drop-cons cs a 0 h)

  present_cons : present_in (drop a cs) ≡ cond (eqb (get_or cs a 0) 0) 0 1 + present_in (drop (suc a) cs)
  unfolding present_in
  present_cons = ap present_in (drop-cons cs a 0 h)

  pub over_here : 31 < get_or cs a 0 → crowded_in a (drop a cs) ≡ too_many a
  over_here l = crowded_cons ∙ ap (λ (b : Bool). cond b (too_many a) (crowded_in (suc a) (drop (suc a) cs))) (lt-ltb 31 (get_or cs a 0) l)

  pub not_here : get_or cs a 0 ≤ 31 → crowded_in a (drop a cs) ≡ crowded_in (a + 1) (drop (a + 1) cs)
  not_here l =
      crowded_cons
      ∙ ap (λ (b : Bool). cond b (too_many a) (crowded_in (suc a) (drop (suc a) cs))) (le-ltb 31 (get_or cs a 0) l)
      ∙ ap (λ (n : ℕ). crowded_in n (drop n cs)) (sym (add-one a))

pub not_over : (cs : List ℕ) (a : ℕ) → length cs ≤ a → crowded_in a (drop a cs) ≡ fine
unfolding crowded_in
not_over cs a h = ap (crowded_in a) (drop_of_length-le cs h)

pub present_none : (cs : List ℕ) (a : ℕ) → length cs ≤ a → present_in (drop a cs) ≡ 0
unfolding present_in
present_none cs a h = ap present_in (drop_of_length-le cs h)

-- as the code counts them
pub present_counted : (cs : List ℕ) → count_by (λ n. not (eqb n 0)) cs ≡ present_in cs
unfolding present_in
present_counted cs = sym (is_count_by present_in (λ n. not (eqb n 0)) refl (λ c cs. go (eqb c 0) (present_in cs)) cs)
  where
    go : (b : Bool) (n : ℕ) → cond b 0 1 + n ≡ cond (not b) (1 + n) n
    go true n = omega arith
    go false n = refl

-- none over 31: each count fits 5 bits
pub counts_fit : (k : ℕ) (cs : List ℕ) → crowded_in k cs ≡ fine → (i : ℕ) → i < length cs → get_or cs i 0 < 32
unfolding crowded_in
counts_fit k [] e i h = absurd (omega arith)
counts_fit k (c ∷ cs) e i h = go (ltb 31 c) refl e i h (counts_fit (suc k) cs)
  where
    go : (b : Bool) → ltb 31 c ≡ b → cond b (too_many k) (crowded_in (suc k) cs) ≡ fine → (i : ℕ) → i < length (c ∷ cs)
        → (crowded_in (suc k) cs ≡ fine → (j : ℕ) → j < length cs → get_or cs j 0 < 32) → get_or (c ∷ cs) i 0 < 32
    go true q n i l ih = let z : ◌≡◌ {A = ℕ} 0 1 = cc in absurd (omega arith)
    go false q n zero l ih = omega (arith, ltb-false 31 c q)
    go false q n (suc j) l ih = ih n j (omega arith)

-- ---- the counts of records

module _ (rs : List Rec1059) (cs : List ℕ) (all : length cs ≡ 64) (e : (a : ℕ) → a < 64 → get_or cs a 0 ≡ length (of_satellite a rs)) where
  pub crowded_is : (n a : ℕ) → a + n ≡ 64 → crowded a n rs ≡ crowded_in a (drop a cs)
  unfolding crowded
  crowded_is zero a h = sym (not_over cs a (omega arith))
  crowded_is (suc n) a h =
      ap₂ (λ (c : ℕ) (t : Told Unit). cond (ltb 31 c) (too_many a) t) (sym (e a (omega arith))) (crowded_is n (suc a) (omega arith))
      ∙ sym (crowded_cons cs a (omega arith))

  pub present_is : (n a : ℕ) → a + n ≡ 64 → present a n rs ≡ present_in (drop a cs)
  unfolding present
  present_is zero a h = sym (present_none cs a (omega arith))
  present_is (suc n) a h =
      ap₂ (λ (c m : ℕ). cond (eqb c 0) 0 1 + m) (sym (e a (omega arith))) (present_is n (suc a) (omega arith))
      ∙ sym (present_cons cs a (omega arith))

-- the bits of the block: 6, 11 of a satellite that has records, and 19 of a record
pub bits_is : (rs : List Rec1059) → Every (λ r. satellite_of r ≤ 63) rs → total (fields1059 rs) ≡ 6 + present 0 64 rs * 11 + length rs * 19
unfolding satellites_from
bits_is rs low =
    omega (arith, ap total (fields_laid rs), total_next 6 (present 0 64 rs) (satellites_from 0 64 rs), total_satellites (grouped1059 rs), same_count rs 64 0, ap length (flat_grouped rs), in_order_1059 rs low)
