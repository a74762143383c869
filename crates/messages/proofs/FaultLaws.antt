-- The first fault of records of message 1059, and what its absence says. Assumes nothing.
use mathlib.Core.Path.{◌≡◌, sym, ap, ap₂, ◌∙◌}
use mathlib.Core.Bool.{Bool, cond, not}
use mathlib.Core.List.{List, [], ◌∷◌}
use Prim.Native.Nat.{ℕ, zero, suc, ◌+◌, ◌≤◌, ◌<◌}
use native.Mathlib.Numerals.{add-one}
use native.Mathlib.Omega.{arith}
use lib.Dec.{ltb}
use lib.ListN.{length, get_or}
use lib.IntN.{ℤ, pos}
use Rattle.bits.specs.Told.{Told, Refused, and_then, satellite, signal, range}
use Rattle.bits.specs.Signed.{fits_twos}
use Rattle.formats.specs.Written.{fine, first_fault}
use Rattle.messages.specs.Every.{Every}
use Rattle.messages.specs.Signals1059.{signals1059}
use Rattle.messages.specs.StepsTable.{mask_of}
use Rattle.messages.specs.Records.{Rec1059, rec1059, records1059}
use Rattle.messages.specs.Write1059.{fault1059}
use Rattle.messages.specs.StepsWrite1059.{fault_by, Faultless}
use Rattle.formats.proofs.WrittenLaws.{fault_none, fault_next}
use Rattle.messages.proofs.Signals1059Laws.{mask_tells, signal_fits}
use Rattle.messages.proofs.Accepts1059.{Writable, fine_clean}
use Rattle.messages.proofs.RecordLaws.{from1059, next1059, end1059}

-- the same faults of each record, the same first fault
first_fault_as : {A : Type 0} (f g : ℕ → A → Told Unit) → ((i : ℕ) (r : A) → f i r ≡ g i r) → (i : ℕ) (rs : List A) → first_fault f i rs ≡ first_fault g i rs
first_fault_as f g e i [] = fault_none f i ∙ sym (fault_none g i)
first_fault_as f g e i (r ∷ rs) =
    fault_next f i r rs ∙ ap₂ (λ (x y : Told Unit). and_then x (λ u. y)) (e i r) (first_fault_as f g e (suc i) rs) ∙ sym (fault_next g i r rs)

-- the mask of an edition tells its faults
fault_by_mask : (edition i : ℕ) (r : Rec1059) → fault_by (mask_of (signals1059 edition)) i r ≡ fault1059 edition i r
unfolding fault_by fault1059
fault_by_mask edition i (rec1059 a g z) =
    ap (λ (b : Bool). cond (ltb 63 a) (satellite i) (cond (not b) (signal i) (cond (not (fits_twos 14 z)) (range i) fine))) (mask_tells edition g)

first_by_mask : (edition i : ℕ) (rs : List Rec1059)
    → first_fault (fault_by (mask_of (signals1059 edition))) i rs ≡ first_fault (fault1059 edition) i rs
first_by_mask edition i rs = first_fault_as (fault_by (mask_of (signals1059 edition))) (fault1059 edition) (fault_by_mask edition) i rs

-- what the code finds by the mask
pub first_fault_is : (edition mask : ℕ) (rs : List Rec1059) (t : Told Unit) → mask ≡ mask_of (signals1059 edition) → t ≡ first_fault (fault_by mask) 0 rs
    → first_fault (fault1059 edition) 0 rs ≡ t
first_fault_is edition mask rs t e f = sym (f ∙ ap (λ (m : ℕ). first_fault (fault_by m) 0 rs) e ∙ first_by_mask edition 0 rs)

-- ---- record i, as the code tests it

module _ (mask : ℕ) (sats gs : List ℕ) (zs : List ℤ) (lg : length sats ≡ length gs) (lz : length sats ≡ length zs) (i : ℕ) (h : i < length sats) where
  by_record : first_fault (fault_by mask) i (from1059 sats gs zs i)
      ≡ and_then (fault_by mask i (rec1059 (get_or sats i 0) (get_or gs i 0) (get_or zs i (pos 0)))) (λ u. first_fault (fault_by mask) (suc i) (from1059 sats gs zs (suc i)))
  by_record =
      ap (first_fault (fault_by mask) i) (next1059 sats gs zs lg lz i h)
      ∙ fault_next (fault_by mask) i (rec1059 (get_or sats i 0) (get_or gs i 0) (get_or zs i (pos 0))) (from1059 sats gs zs (suc i))

  pub fault_here : {n : ℕ} {carried : List ℕ} → fault_by mask i (rec1059 (get_or sats i 0) (get_or gs i 0) (get_or zs i (pos 0))) ≡ Refused n carried
      → first_fault (fault_by mask) i (from1059 sats gs zs i) ≡ Refused n carried
  fault_here e = rw (by_record, e)

  pub fine_here : fault_by mask i (rec1059 (get_or sats i 0) (get_or gs i 0) (get_or zs i (pos 0))) ≡ fine
      → first_fault (fault_by mask) i (from1059 sats gs zs i) ≡ first_fault (fault_by mask) (i + 1) (from1059 sats gs zs (i + 1))
  fine_here e = rw (add-one i, by_record, e)

pub no_more : (mask : ℕ) (sats gs : List ℕ) (zs : List ℤ) (i : ℕ) → length sats ≤ i → first_fault (fault_by mask) i (from1059 sats gs zs i) ≡ fine
no_more mask sats gs zs i h = ap (first_fault (fault_by mask) i) (end1059 sats gs zs i h) ∙ fault_none (fault_by mask) i

-- ---- records without a fault

writable_at : (edition : ℕ) (sats gs : List ℕ) (zs : List ℤ) → length sats ≡ length gs → length sats ≡ length zs → Every (Writable edition) (records1059 sats gs zs)
    → (i : ℕ) → i < length sats → Writable edition (rec1059 (get_or sats i 0) (get_or gs i 0) (get_or zs i (pos 0)))
unfolding records1059
writable_at edition [] gs zs lg lz w i h = absurd (omega arith)
writable_at edition (a ∷ sats) [] zs lg lz w i h = absurd (omega arith)
writable_at edition (a ∷ sats) (g ∷ gs) [] lg lz w i h = absurd (omega arith)
writable_at edition (a ∷ sats) (g ∷ gs) (z ∷ zs) lg lz w zero h = w.0
writable_at edition (a ∷ sats) (g ∷ gs) (z ∷ zs) lg lz w (suc i) h = writable_at edition sats gs zs (omega arith) (omega arith) w.1 i (omega arith)

pub sound : (edition : ℕ) (sats gs : List ℕ) (zs : List ℤ) → length sats ≡ length gs → length sats ≡ length zs → length sats ≤ 1953
    → first_fault (fault1059 edition) 0 (records1059 sats gs zs) ≡ fine → Faultless sats gs zs
sound edition sats gs zs lg lz few e =
    let w = writable_at edition sats gs zs lg lz (fine_clean edition 0 (records1059 sats gs zs) e) in
    record {
      signals = lg;
      biases = lz;
      few = few;
      low = λ i h. omega (arith, (w i h).low);
      short = λ i h. signal_fits edition (get_or gs i 0) (w i h).known;
      fits = λ i h. (w i h).fits;
    }
