-- The bias block of message 1230, from its format: what a call wrote is read, in the order of the mask; and what stands in the data is written to the same bits, into any data from any bit on. Assumes nothing.
use mathlib.Core.Path.{◌≡◌, refl, sym, ap, ap₂, ◌∙◌}
use mathlib.Core.Bool.{Bool, true, false, cond, ◌&&◌}
use mathlib.Core.List.{List, [], ◌∷◌, ◌++◌, map}
use Prim.Native.Nat.{ℕ, suc, ◌+◌, ◌-◌, ◌*◌, ◌/◌, ◌%◌, ◌^◌, ◌≤◌, ◌<◌}
use native.Mathlib.Nat.{div-one}
use native.Mathlib.Omega.{arith}
use borrow.Author.Tests.{lt-ltb, eq-eqb, ne_eqb}
use lib.ListN.{length, length-map}
use lib.IntN.{ℤ}
use lib.Dec.{T, eqb, eqb→eq}
use Rattle.bits.specs.Told.{Told, Accepted, Refused, and_then}
use Rattle.bits.specs.Field.{reading}
use Rattle.bits.specs.Signed.{fits_unsigned}
use Rattle.formats.specs.Format.{twos, fit_each}
use Rattle.formats.proofs.WrittenLaws.{fault_none, fault_next}
use Rattle.formats.specs.WrittenBack.{WrittenBack}
use Rattle.formats.proofs.NextLaws.{true_both, then_accepted}
use Rattle.formats.proofs.TimesLaws.{fit_each_lem, fit_each_none, fit_each_append}
use Rattle.formats.proofs.UseLaws.{call_reads_back, call_writes_back}
use Rattle.formats.specs.Written.{fine, first_fault}
use Rattle.messages.specs.I16.{OfI16}
use Rattle.messages.specs.Every.{gather}
use Rattle.messages.specs.Records.{Rec1230, rec1230, signal_of1230, bias_of1230, records1230}
use Rattle.messages.specs.Layout1230.{block1230, mask_signals, masked, flat1230, of_signal, mask_of, grouped1230}
use Rattle.messages.specs.Read1230.{read_block1230}
use Rattle.messages.specs.Writer.{first_repeat, is_among, keep}
use Rattle.messages.specs.Write1230.{is_in, fault1230, fields1230, write1230}
use Rattle.messages.specs.InOrder.{in_order1230}
use Rattle.messages.proofs.TestLaws.{left, right, below, below_place}
use Rattle.messages.proofs.AcceptLaws.{read_as}
use Rattle.messages.proofs.I16Laws.{all_fit}
use Rattle.messages.proofs.RecordLaws.{parts1230, columns1230}
use Rattle.messages.proofs.Layout1230Laws.{block_good}
use Rattle.messages.proofs.Fields1230Laws.{digits}
use Rattle.messages.proofs.ExtentLaws.{fits_1230}
use Rattle.messages.proofs.Read1230Laws.{masked_length}
use Rattle.messages.proofs.RepeatLaws.{once}
use Rattle.messages.proofs.Accepts1230.{call_written, call_accepted}

-- ---- what is written reads back

-- the signal of one bias or none is named by a digit
one_named : (g k : ℕ) (zs : List ℤ) (rs : List Rec1230) → length zs ≡ k % 2 → map signal_of1230 (map (rec1230 g) zs ++ rs) ≡ keep (eqb (k % 2) 1) g (map signal_of1230 rs)
one_named g k [] rs e = rw (sym e)
one_named g k (z ∷ []) rs e = rw (sym e)
one_named g k (y ∷ z ∷ zs) rs e = absurd (omega arith)

bit : (b : Bool) → cond b 1 0 ≤ 1
bit true = omega arith
bit false = omega arith

-- the biases of records in order, and that they fit
front : (g : ℕ) (zs : List ℤ) (rs : List Rec1230) → map bias_of1230 (map (rec1230 g) zs ++ rs) ≡ zs ++ map bias_of1230 rs
front g [] rs = refl
front g (z ∷ zs) rs = ap (λ (l : List ℤ). z ∷ l) (front g zs rs)

by_signal : (rs : List Rec1230) (gs : List ℕ) → map bias_of1230 (gather (λ g. map (rec1230 g) (of_signal g rs)) gs) ≡ gather (λ g. of_signal g rs) gs
unfolding gather
by_signal rs [] = refl
by_signal rs (g ∷ gs) = front g (of_signal g rs) _ ∙ ap (λ (l : List ℤ). of_signal g rs ++ l) (by_signal rs gs)

of_fits : (g : ℕ) (gs : List ℕ) (zs : List ℤ) → OfI16 zs → fit_each (twos 16) (of_signal g (records1230 gs zs)) ≡ true
unfolding records1230 of_signal
of_fits g [] zs f = fit_each_none (twos 16)
of_fits g (h ∷ gs) [] f = fit_each_none (twos 16)
of_fits g (h ∷ gs) (z ∷ zs) f = go (eqb h g) (of_fits g gs zs f.1)
  where
    go : (b : Bool) → fit_each (twos 16) (of_signal g (records1230 gs zs)) ≡ true → fit_each (twos 16) (keep b z (of_signal g (records1230 gs zs))) ≡ true
    go true r = fit_each_lem (twos 16) z (of_signal g (records1230 gs zs)) (all_fit z f.0.sfits) r
    go false r = r

all_fits : (rs : List Rec1230) → ((g : ℕ) → fit_each (twos 16) (of_signal g rs) ≡ true) → (gs : List ℕ) → fit_each (twos 16) (gather (λ g. of_signal g rs) gs) ≡ true
unfolding gather
all_fits rs f [] = fit_each_none (twos 16)
all_fits rs f (g ∷ gs) = fit_each_append (twos 16) (of_signal g rs) _ (f g) (all_fits rs f gs)

-- records whose signals do not repeat: in order they have the signals of their mask, and fit the format
module _ (gs : List ℕ) (zs : List ℤ) (even : length gs ≡ length zs) (single : first_repeat eqb 0 [] gs ≡ fine) where
  abbrev rs : List Rec1230
  rs = records1230 gs zs

  abbrev m : ℕ
  m = mask_of mask_signals (map signal_of1230 rs)

  -- the mask by the biases of each signal
  made : (m < 16) × (length (of_signal 2 rs) ≡ m / 2 ^ 3 % 2) × (length (of_signal 3 rs) ≡ m / 2 ^ 2 % 2) × (length (of_signal 8 rs) ≡ m / 2 ^ 1 % 2) × (length (of_signal 9 rs) ≡ m / 2 ^ 0 % 2)
  made =
      let n = ap (mask_of mask_signals) (parts1230 gs zs even).0 ∙ digits gs in
      let a = bit (is_in 2 gs) in
      let b = bit (is_in 3 gs) in
      let c = bit (is_in 8 gs) in
      let d = bit (is_in 9 gs) in
      (omega arith, once 2 0 [] gs zs even single ∙ omega arith, once 3 0 [] gs zs even single ∙ omega arith, once 8 0 [] gs zs even single ∙ omega arith, once 9 0 [] gs zs even single ∙ omega (arith, div-one m))

  named : map signal_of1230 (in_order1230 rs) ≡ masked mask_signals m
  unfolding masked gather
  named =
      one_named 2 (m / 2 ^ 3) (of_signal 2 rs) _ made.1
      ∙ ap (keep (eqb (m / 2 ^ 3 % 2) 1) 2) (one_named 3 (m / 2 ^ 2) (of_signal 3 rs) _ made.2
      ∙ ap (keep (eqb (m / 2 ^ 2 % 2) 1) 3) (one_named 8 (m / 2 ^ 1) (of_signal 8 rs) _ made.3
      ∙ ap (keep (eqb (m / 2 ^ 1 % 2) 1) 8) (one_named 9 (m / 2 ^ 0) (of_signal 9 rs) [] made.4)))

  flat_grouped : flat1230 (grouped1230 rs) ≡ in_order1230 rs
  flat_grouped = ap₂ records1230 (sym named) (sym (by_signal rs mask_signals)) ∙ columns1230 (in_order1230 rs)

  grouped_fits : OfI16 zs → block1230.fits (grouped1230 rs) ≡ true
  grouped_fits raw =
      let xs = gather (λ g. of_signal g rs) mask_signals in
      let hs = masked mask_signals m in
      let n : length xs ≡ length hs = omega (arith, ap length (by_signal rs mask_signals), ap length named, length-map (in_order1230 rs) bias_of1230, length-map (in_order1230 rs) signal_of1230) in
      true_both (fits_unsigned 4 m) _ (lt-ltb m (2 ^ 4) made.0)
      (true_both (eqb (length xs) (length hs)) _ (eq-eqb (length xs) (length hs) n)
      (all_fits rs (λ g. of_fits g gs zs raw) mask_signals))

-- a block that was written is there
pub block_again_1230 : (s : List ℕ) (p : ℕ) (gs : List ℕ) (zs : List ℤ) {q : ℕ} → OfI16 zs → (write1230 s p gs zs).answer ≡ Accepted q
    → read_block1230 (write1230 s p gs zs).areas p ≡ Accepted (reading (in_order1230 (records1230 gs zs)) q)
unfolding read_block1230 fields1230
block_again_1230 s p gs zs raw h =
    let w = call_accepted s p gs zs h in
    call_reads_back block1230 block_good.faithful s p flat1230 w.few (grouped_fits gs zs w.biases w.single raw) w.within (call_written s p gs zs w) h (flat_grouped gs zs w.biases w.single)

-- ---- grouping the records of a block gives the block

-- the signals ascend, the first being at least a
abbrev Up : ℕ → List ℕ → Type 0
Up a [] = Unit
Up a (g ∷ gs) = (a ≤ g) × Up (g + 1) gs

-- a signal before them has no bias
none_of : (c a : ℕ) (gs : List ℕ) → c < a → Up a gs → (m : ℕ) (zs : List ℤ) → of_signal c (records1230 (masked gs m) zs) ≡ []
unfolding of_signal records1230 masked
none_of c a [] l up m zs = refl
none_of c a (g ∷ gs) l up m zs = go (eqb (m / 2 ^ length gs % 2) 1) zs (none_of c (g + 1) gs (omega (arith, up.0)) up.1 m)
  where
    go : (b : Bool) (ys : List ℤ) → ((ys : List ℤ) → of_signal c (records1230 (masked gs m) ys) ≡ []) → of_signal c (records1230 (keep b g (masked gs m)) ys) ≡ []
    go true [] ih = refl
    go true (y ∷ ys) ih = rw (ne_eqb g c (λ e. omega (arith, up.0))) (ih ys)
    go false ys ih = ih ys

-- and a record of it changes nothing
past : (c : ℕ) (z : ℤ) (rs : List Rec1230) (a : ℕ) (gs : List ℕ) → c < a → Up a gs → gather (λ g. of_signal g (rec1230 c z ∷ rs)) gs ≡ gather (λ g. of_signal g rs) gs
unfolding gather of_signal
past c z rs a [] l up = refl
past c z rs a (g ∷ gs) l up = rw (ne_eqb c g (λ e. omega (arith, up.0))) (ap (λ (l : List ℤ). of_signal g rs ++ l) (past c z rs (g + 1) gs (omega (arith, up.0)) up.1))

biases_again : (a : ℕ) (gs : List ℕ) → Up a gs → (m : ℕ) (zs : List ℤ) → length zs ≡ length (masked gs m) → gather (λ g. of_signal g (records1230 (masked gs m) zs)) gs ≡ zs
unfolding gather masked records1230 of_signal
biases_again a [] up m [] l = refl
biases_again a [] up m (z ∷ zs) l = absurd (omega arith)
biases_again a (g ∷ gs) up m zs l = go (eqb (m / 2 ^ length gs % 2) 1) zs l (biases_again (g + 1) gs up.1 m)
  where
    go : (b : Bool) (ys : List ℤ) → length ys ≡ length (keep b g (masked gs m))
        → ((xs : List ℤ) → length xs ≡ length (masked gs m) → gather (λ h. of_signal h (records1230 (masked gs m) xs)) gs ≡ xs)
        → of_signal g (records1230 (keep b g (masked gs m)) ys) ++ gather (λ h. of_signal h (records1230 (keep b g (masked gs m)) ys)) gs ≡ ys
    go true [] l ih = absurd (omega arith)
    go true (y ∷ ys) l ih =
        rw (eq-eqb g g refl)
        (ap₂ (λ (u v : List ℤ). y ∷ u ++ v) (none_of g (g + 1) gs (omega arith) up.1 m ys) (past g y (records1230 (masked gs m) ys) (g + 1) gs (omega arith) up.1 ∙ ih ys (omega arith)))
    go false ys l ih = ap (λ (u : List ℤ). u ++ gather (λ h. of_signal h (records1230 (masked gs m) ys)) gs) (none_of g (g + 1) gs (omega arith) up.1 m ys) ∙ ih ys l

-- ---- what is read is written back

-- the signals of a mask are in the table, each once, and have that mask: one computed test over all masks
accepted : Told Unit → Bool
accepted (Accepted u) = true
accepted (Refused n carried) = false

is_fine : (t : Told Unit) → T (accepted t) → t ≡ fine
unfolding accepted
is_fine (Accepted u) h = refl
is_fine (Refused n carried) h = absurd h

-- the first fault, in a form that computes
faults : ℕ → List ℕ → Told Unit
faults i [] = fine
faults i (g ∷ gs) = and_then (fault1230 i g) (λ u. faults (suc i) gs)

faults_are : (i : ℕ) (gs : List ℕ) → first_fault fault1230 i gs ≡ faults i gs
unfolding faults
faults_are i [] = fault_none fault1230 i
faults_are i (g ∷ gs) = fault_next fault1230 i g gs ∙ ap (λ (t : Told Unit). and_then (fault1230 i g) (λ u. t)) (faults_are (suc i) gs)

refused : ℕ → Told Unit
refused m = and_then (faults 0 (masked mask_signals m)) (λ u. first_repeat eqb 0 [] (masked mask_signals m))

good : ℕ → Bool
good m = accepted (refused m) && eqb (mask_of mask_signals (masked mask_signals m)) m

all_good : T (below good 16)
unfolding good refused accepted masked mask_of faults fault1230 first_repeat is_among
all_good = tt

mask_good : (m : ℕ) → m < 16 → (refused m ≡ fine) × (mask_of mask_signals (masked mask_signals m) ≡ m)
unfolding good
mask_good m l = let t = below_place good 16 all_good m l in (is_fine (refused m) (left (accepted (refused m)) _ t), eqb→eq _ m (right (accepted (refused m)) _ t))

-- a block that stands in s is written into any data that has room for it
pub block_back_1230 : (s : List ℕ) (p : ℕ) {q : ℕ} (rs : List Rec1230) → read_block1230 s p ≡ Accepted (reading rs q) → (t : List ℕ) (r : ℕ) → length t ≤ 1023
    → r + (q - p) ≤ length t * 8 → WrittenBack s p q r (write1230 t r (map signal_of1230 rs) (map bias_of1230 rs))
unfolding read_block1230 fields1230 refused
block_back_1230 s p {q} rs h t r few room =
    let a = read_as flat1230 (block1230.reads s p) h in
    let m = a.0.0 in
    let zs = a.0.1 in
    let gs = masked mask_signals m in
    let b = fits_1230 m zs (block_good.faithful.there s p (reading (m, zs) q) a.1).fitting in
    let ok = mask_good m b.0 in
    let f = then_accepted (faults 0 gs) _ ok.0 in
    let parts = parts1230 gs zs (sym b.1) in
    let same : grouped1230 (records1230 gs zs) ≡ (m, zs) =
    ap₂ (λ (k : ℕ) (l : List ℤ). (k, l)) (ap (mask_of mask_signals) parts.0 ∙ ok.1) (biases_again 0 mask_signals (omega arith, (omega arith, (omega arith, (omega arith, tt)))) m zs b.1) in
    rw (sym a.2, parts.0, parts.1)
    (call_writes_back block1230 block_good.faithful s p a.1 same t r room (λ within.
    call_written t r gs zs (record { few = few; biases = sym b.1; most = omega (arith, b.1, masked_length m); clean = faults_are 0 gs ∙ f.1; single = f.2; within = within })))
