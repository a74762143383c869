-- What a field tells that is there, and what an answer tells that is known to accept. Assumes nothing.
use mathlib.Core.Path.{◌≡◌, refl, sym, ap, ◌∙◌}
use mathlib.Core.List.{List}
use Prim.Native.Nat.{ℕ, ◌+◌, ◌*◌, ◌≤◌, ◌<◌}
use native.Mathlib.Omega.{arith}
use lib.IntN.{ℤ}
use lib.ListN.{length}
use Rattle.std.specs.Prelude.{Result, Ok, Err, IsOk}
use Rattle.bits.specs.Told.{Told, Accepted, Refused, and_then, size}
use Rattle.bits.specs.Field.{reading, read_unsigned, read_twos, cut_at}
use Rattle.bits.specs.Signed.{twos_of}
use Rattle.bits.specs.Refusals.{told}
use Rattle.bits.specs.Answers.{told_unsigned, told_signed}
use Rattle.bits.specs.declared.refusal.Refusal.{Refusal}
use Rattle.bits.specs.declared.refusal.Refusal.TheVariants.{Short}
use Rattle.messages.specs.Records.{Counted}
use Rattle.messages.specs.Answers.{told_read}
use Rattle.bits.proofs.ReadLaws.{reads_value, reads_short, refused_short}

-- an answer that tells what is accepted is a good one
pub is_good : {T A : Type 0} (value : T → A) {a : A} (r : Result T Refusal) → told value r ≡ Accepted a → IsOk r
is_good value (Ok v) e = refl
is_good value (Err x) e = let z : ◌≡◌ {A = ℕ} 0 1 = cc in absurd (omega arith)

-- a refusal is the same of whatever is read
pub refused_alike : {A B : Type 0} {n m : ℕ} {c d : List ℕ} → ◌≡◌ {A = Told A} (Refused n c) (Refused m d) → ◌≡◌ {A = Told B} (Refused n c) (Refused m d)
refused_alike e = ap (λ t. and_then t (λ a. size)) e

module _ (s : List ℕ) (p w : ℕ) (few : length s ≤ 1023) (low : 1 ≤ w) (high : w ≤ 64) (h : p + w ≤ length s * 8) (r : Result (ℕ × ℕ) Refusal) (e : told_unsigned r ≡ read_unsigned s p w) where
  -- a field that lies within the data is there
  pub is_there : IsOk r
  is_there = is_good (λ x. reading x.0 x.1) r (e ∙ reads_value (λ v. v) s p w few low high h)

-- and not refused
pub not_refused : (s : List ℕ) (p w : ℕ) (few : length s ≤ 1023) (low : 1 ≤ w) (high : w ≤ 64) → p + w ≤ length s * 8
    → (r : Result (ℕ × ℕ) Refusal) → told_unsigned r ≡ read_unsigned s p w → ((v : ℕ × ℕ) → r ≡ Ok v → ⊥) → ⊥
not_refused s p w few low high h (Ok v) e o = o v refl
not_refused s p w few low high h (Err x) e o =
    let d = is_there s p w few low high h (Err x) e in
    let z : ◌≡◌ {A = ℕ} 0 1 = cc in
    omega arith

-- ---- a refusal, passed on

-- a field that is refused where the data and the width are within their limits is cut short, and an answer that passes its Short on says so
module _ (s : List ℕ) (p w : ℕ) (few : length s ≤ 1023) (low : 1 ≤ w) (high : w ≤ 64) where
  pub unsigned_cut : (r : Result (ℕ × ℕ) Refusal) → told_unsigned r ≡ read_unsigned s p w → ((v q : ℕ) → r ≡ Ok (v, q) → ⊥)
      → {answer : Told Counted} → ((carried : List ℕ) → told_unsigned r ≡ Refused 1 carried → answer ≡ Refused 1 carried)
      → (read_unsigned s p w ≡ cut_at (length s) p w) × (answer ≡ cut_at (length s) p w)
  unsigned_cut (Ok (v, q)) e o passed = absurd (o v q refl)
  unsigned_cut (Err x) e o passed = let k = refused_short (λ v. v) s p w few low high (sym e) in (k, passed _ (e ∙ k))

  pub twos_cut : (r : Result (ℤ × ℕ) Refusal) → told_signed r ≡ read_twos s p w → ((v : ℤ) (q : ℕ) → r ≡ Ok (v, q) → ⊥)
      → {answer : Told Counted} → ((carried : List ℕ) → told_signed r ≡ Refused 1 carried → answer ≡ Refused 1 carried)
      → (read_twos s p w ≡ cut_at (length s) p w) × (answer ≡ cut_at (length s) p w)
  twos_cut (Ok (v, q)) e o passed = absurd (o v q refl)
  twos_cut (Err x) e o passed = let k = refused_short (twos_of w) s p w few low high (sym e) in (k, passed _ (e ∙ k))

  -- a signed field that ends behind the data is cut short
  pub twos_behind : length s * 8 < p + w → (r : Result (ℤ × ℕ) Refusal) → told_signed r ≡ read_twos s p w
      → {answer : Told Counted} → ((carried : List ℕ) → told_signed r ≡ Refused 1 carried → answer ≡ Refused 1 carried) → answer ≡ cut_at (length s) p w
  twos_behind h r e passed = passed _ (e ∙ reads_short (twos_of w) s p w few low high h)

pub unsigned_passed : (r : Result (ℕ × ℕ) Refusal) {p m : ℕ} → r ≡ Err (Short p m) → (carried : List ℕ) → told_unsigned r ≡ Refused 1 carried → told_read (Err (Short p m)) ≡ Refused 1 carried
unsigned_passed r g carried e = refused_alike (ap told_unsigned (sym g) ∙ e)
