-- The fields of a block of message 1230: its mask, the biases of each signal, and its bits. Assumes nothing.
use mathlib.Core.Path.{◌≡◌, refl, sym, ap, ◌∙◌}
use mathlib.Core.Logic.{⊎_elim}
use mathlib.Core.Bool.{Bool, true, cond}
use mathlib.Core.List.{List, [], ◌∷◌, ◌++◌, map}
use Prim.Native.Nat.{ℕ, suc, ◌+◌, ◌*◌, ◌≤◌, ◌<◌}
use native.Mathlib.Numerals.{add-one}
use native.Mathlib.Omega.{arith}
use borrow.Author.Tests.{eq-eqb, ne_eqb}
use lib.Dec.{eqb}
use lib.ListN.{length, get_or, length-append}
use lib.IntN.{ℤ, pos}
use Rattle.bits.specs.Signed.{twos_bits}
use Rattle.bits.specs.Fields.{Field, bits, total}
use Rattle.bits.proofs.FieldsLaws.{total_one, total_next}
use Rattle.formats.specs.Format.{twos}
use Rattle.formats.proofs.WrittenLaws.{fault_next}
use Rattle.formats.proofs.TimesLaws.{fields_none, fields_next, total_each}
use Rattle.formats.specs.Written.{fine, first_fault}
use Rattle.messages.specs.Every.{gather}
use Rattle.messages.specs.Records.{Rec1230, rec1230, signal_of1230, records1230}
use Rattle.messages.specs.Layout1230.{mask_signals, of_signal, mask_of}
use Rattle.messages.specs.Writer.{keep, first_repeat}
use Rattle.messages.specs.Write1230.{is_in, fault1230, fields1230}
use Rattle.messages.specs.StepsWrite1230.{bias_fields1230}
use Rattle.messages.proofs.Layout1230Laws.{fields_laid}
use Rattle.messages.proofs.RecordLaws.{from1230, next1230, end1230, parts1230}
use Rattle.messages.proofs.RepeatLaws.{once}
use Rattle.messages.proofs.Signals1230Laws.{known_first, one_of_four}

-- ---- the biases of one signal, along the list

nothing_left : (xs : List ℤ) → length xs ≡ 0 → xs ≡ []
nothing_left [] e = refl
nothing_left (x ∷ xs) e = absurd (omega arith)

module _ (g : ℕ) (gs : List ℕ) (zs : List ℤ) (l : length gs ≡ length zs) (i : ℕ) (h : i < length gs) where
  kept : of_signal g (from1230 gs zs i) ≡ keep (eqb (get_or gs i 0) g) (get_or zs i (pos 0)) (of_signal g (from1230 gs zs (suc i)))
  unfolding of_signal
  kept = ap (of_signal g) (next1230 gs zs l i h)

  -- the first bias is the only one, where no signal stands twice
  pub only_here : first_repeat eqb 0 [] gs ≡ fine → is_in g gs ≡ true → get_or gs i 0 ≡ g → of_signal g (records1230 gs zs) ≡ of_signal g (from1230 gs zs i)
      → bias_fields1230 (of_signal g (records1230 gs zs)) ≡ bits 16 (twos_bits 16 (get_or zs i (pos 0))) ∷ []
  only_here f t e d =
      let z = get_or zs i (pos 0) in
      let rest = of_signal g (from1230 gs zs (suc i)) in
      let k : of_signal g (records1230 gs zs) ≡ z ∷ rest = d ∙ kept ∙ ap (λ (b : Bool). keep b z rest) (eq-eqb (get_or gs i 0) g e) in
      let n : length (of_signal g (records1230 gs zs)) ≡ 1 = once g 0 [] gs zs l f ∙ ap (λ (b : Bool). cond b 1 0) t in
      let o : rest ≡ [] = nothing_left rest (omega (arith, n, ap length k)) in
      ap bias_fields1230 (k ∙ ap (λ (xs : List ℤ). z ∷ xs) o) ∙ fields_next (twos 16) z [] ∙ ap (λ (fs : List Field). bits 16 (twos_bits 16 z) ∷ fs) (fields_none (twos 16))

  pub signal_later : (get_or gs i 0 ≡ g → ⊥) → of_signal g (from1230 gs zs i) ≡ of_signal g (from1230 gs zs (i + 1))
  signal_later e = rw add-one (kept ∙ ap (λ (b : Bool). keep b (get_or zs i (pos 0)) (of_signal g (from1230 gs zs (suc i)))) (ne_eqb (get_or gs i 0) g e))

pub bias_none : (g : ℕ) (gs : List ℕ) (zs : List ℤ) (i : ℕ) → length gs ≤ i → bias_fields1230 (of_signal g (from1230 gs zs i)) ≡ []
unfolding of_signal
bias_none g gs zs i h = ap (λ (rs : List Rec1230). bias_fields1230 (of_signal g rs)) (end1230 gs zs i h) ∙ fields_none (twos 16)

-- ---- the mask

-- the mask by its digits
pub digits : (gs : List ℕ) → mask_of mask_signals gs ≡ cond (is_in 2 gs) 1 0 * 8 + cond (is_in 3 gs) 1 0 * 4 + cond (is_in 8 gs) 1 0 * 2 + cond (is_in 9 gs) 1 0
unfolding mask_of
digits gs = omega arith

-- as the code adds its bits
pub mask_is : (gs : List ℕ) (zs : List ℤ) → length gs ≡ length zs → (a b c d : ℕ)
    → a ≡ cond (is_in 2 gs) 1 0 → b ≡ cond (is_in 3 gs) 1 0 → c ≡ cond (is_in 8 gs) 1 0 → d ≡ cond (is_in 9 gs) 1 0
    → mask_of mask_signals (map signal_of1230 (records1230 gs zs)) ≡ a * 8 + b * 4 + c * 2 + d
mask_is gs zs l a b c d ea eb ec ed = ap (mask_of mask_signals) (parts1230 gs zs l).0 ∙ omega (arith, digits gs, ea, eb, ec, ed)

-- the block, in the order in which it is put
pub laid : (gs : List ℕ) (zs : List ℤ) (m : ℕ) → mask_of mask_signals (map signal_of1230 (records1230 gs zs)) ≡ m
    → fields1230 (records1230 gs zs)
    ≡ (bits 4 m ∷ [])
    ++ (bias_fields1230 (of_signal 2 (records1230 gs zs))
    ++ (bias_fields1230 (of_signal 3 (records1230 gs zs))
    ++ (bias_fields1230 (of_signal 8 (records1230 gs zs)) ++ (bias_fields1230 (of_signal 9 (records1230 gs zs)) ++ []))))
laid gs zs m e = rw (sym e) (fields_laid (records1230 gs zs))

-- ---- bits

pub total_16 : (zs : List ℤ) → total (bias_fields1230 zs) ≡ length zs * 16
total_16 zs = total_each (twos 16) 16 (λ z. total_one 16 (twos_bits 16 z)) zs

-- the biases of all four signals
four : List Rec1230 → List ℤ
four rs = gather (λ g. of_signal g rs) mask_signals

length_four : (rs : List Rec1230) → length (four rs) ≡ length (of_signal 2 rs) + length (of_signal 3 rs) + length (of_signal 8 rs) + length (of_signal 9 rs)
unfolding four gather
length_four rs =
    let d = of_signal 9 rs ++ [] in
    let c = of_signal 8 rs ++ d in
    omega (arith, length-append (of_signal 2 rs) (of_signal 3 rs ++ c), length-append (of_signal 3 rs) c, length-append (of_signal 8 rs) d, length-append (of_signal 9 rs) [])

one_more : (g : ℕ) (z : ℤ) (rs : List Rec1230) → is_in g mask_signals ≡ true → length (four (rec1230 g z ∷ rs)) ≡ length (four rs) + 1
unfolding of_signal
one_more g z rs e =
    rw (length_four rs, length_four (rec1230 g z ∷ rs))
    (⊎_elim (λ p. rw p (omega arith))
    (λ x. ⊎_elim (λ p. rw p (omega arith)) (λ y. ⊎_elim (λ p. rw p (omega arith)) (λ p. rw p (omega arith)) y) x)
    (one_of_four g e))

all_four : (k : ℕ) (gs : List ℕ) (zs : List ℤ) → length gs ≡ length zs → first_fault fault1230 k gs ≡ fine → length (four (records1230 gs zs)) ≡ length gs
unfolding records1230 four of_signal gather
all_four k [] zs l e = refl
all_four k (g ∷ gs) [] l e = absurd (omega arith)
all_four k (g ∷ gs) (z ∷ zs) l e =
    let f = known_first k g (first_fault fault1230 (suc k) gs) (sym (fault_next fault1230 k g gs) ∙ e) in
    omega (arith, one_more g z (records1230 gs zs) f.0, all_four (suc k) gs zs (omega arith) f.1)

-- 4 bits of the mask, and 16 of each record
pub bits_is : (gs : List ℕ) (zs : List ℤ) → length gs ≡ length zs → first_fault fault1230 0 gs ≡ fine → total (fields1230 (records1230 gs zs)) ≡ 4 + length gs * 16
unfolding fields1230 four
bits_is gs zs l e =
    let rs = records1230 gs zs in
    omega (arith, total_next 4 (mask_of mask_signals (map signal_of1230 rs)) (bias_fields1230 (four rs)), total_16 (four rs), all_four 0 gs zs l e)
