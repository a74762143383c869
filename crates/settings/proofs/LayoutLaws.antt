-- Which case of a byte of a block holds, and what stands where in one. Assumes nothing.
use mathlib.Core.Path.{◌≡◌}
use mathlib.Core.List.{List}
use Prim.Native.Nat.{ℕ, ◌+◌, ◌-◌, ◌*◌, ◌/◌, ◌%◌, ◌^◌, ◌≤◌, ◌<◌}
use native.Mathlib.Omega.{arith}
use lib.ListN.{length, get_or}
use borrow.Author.Tests.{lt-ltb, le-ltb, eq-eqb, ne_eqb}
use Rattle.settings.specs.Block.{entry_byte, list_byte, byte_of, entry_place}

module _ (ns ps : List ℕ) (k j : ℕ) where
  pub no_entry : length ns ≤ k → 0 ≡ entry_byte ns ps k j
  unfolding entry_byte
  no_entry h = simp (le-ltb _ _ h)

  module _ (h : k < length ns) where
    pub high_byte : j ≡ 0 → get_or ns k 0 / 2 ^ 8 ≡ entry_byte ns ps k j
    unfolding entry_byte
    high_byte e = simp (lt-ltb _ _ h, eq-eqb _ _ e)

    pub low_byte : j ≡ 1 → get_or ns k 0 % 2 ^ 8 ≡ entry_byte ns ps k j
    unfolding entry_byte
    low_byte e = let z : j ≡ 0 → ⊥ = λ q. absurd (omega arith) in simp (lt-ltb _ _ h, ne_eqb _ _ z, eq-eqb _ _ e)

    pub priority_byte : (j ≡ 0 → ⊥) → (j ≡ 1 → ⊥) → get_or ps k 0 ≡ entry_byte ns ps k j
    unfolding entry_byte
    priority_byte z o = simp (lt-ltb _ _ h, ne_eqb _ _ z, ne_eqb _ _ o)

module _ (e : ℕ) (ns ps : List ℕ) (i : ℕ) where
  pub pairs : e ≡ 1 → entry_byte ns ps (i / 2) (i % 2) ≡ list_byte e ns ps i
  unfolding list_byte
  pairs q = simp (eq-eqb _ _ q)

  pub triples : (e ≡ 1 → ⊥) → entry_byte ns ps (i / 3) (i % 3) ≡ list_byte e ns ps i
  unfolding list_byte
  triples n = simp (ne_eqb _ _ n)

module _ (e x : ℕ) (ns ps : List ℕ) where
  pub byte_0 : (i : ℕ) → i ≡ 0 → x / 2 ^ 8 ≡ byte_of e x ns ps i
  unfolding byte_of
  byte_0 i q = simp (eq-eqb _ _ q)

  pub byte_1 : (i : ℕ) → i ≡ 1 → x % 2 ^ 8 ≡ byte_of e x ns ps i
  unfolding byte_of
  byte_1 i q = rw q

  pub byte_2 : (i : ℕ) → i ≡ 2 → e ≡ byte_of e x ns ps i
  unfolding byte_of
  byte_2 i q = rw q

  pub byte_3 : (i : ℕ) → i ≡ 3 → length ns ≡ byte_of e x ns ps i
  unfolding byte_of
  byte_3 i q = rw q

  pub byte_later : (i : ℕ) → 4 ≤ i → list_byte e ns ps (i - 4) ≡ byte_of e x ns ps i
  unfolding byte_of
  byte_later i h =
      let a : i ≡ 0 → ⊥ = λ q. absurd (omega arith) in
      let b : i ≡ 1 → ⊥ = λ q. absurd (omega arith) in
      let c : i ≡ 2 → ⊥ = λ q. absurd (omega arith) in
      let d : i ≡ 3 → ⊥ = λ q. absurd (omega arith) in
      simp (ne_eqb _ _ a, ne_eqb _ _ b, ne_eqb _ _ c, ne_eqb _ _ d)

-- ---- places

pub place_first : (e k : ℕ) → e ≡ 1 → 4 + k * 2 ≡ entry_place e k
place_first e k q = simp (eq-eqb _ _ q)

pub place_second : (e k : ℕ) → (e ≡ 1 → ⊥) → 4 + k * 3 ≡ entry_place e k
place_second e k n = simp (ne_eqb _ _ n)
