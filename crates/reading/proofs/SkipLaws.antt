-- A byte that was skipped: where it lies, and what it is counted as. Assumes nothing.
use Rattle.std.proofs.Common.{◌≡◌, ℕ, ◌+◌, ◌-◌, ◌%◌, ◌^◌, ◌<◌, ◌≤◌, List, length, get_or, sym, ◌∙◌, le-ltb, lt-ltb, eq-eqb, ne_eqb}
use lib.ListN.{get_or-eq_default}
use Rattle.reading.specs.Skips.{byte_in, counted}
use Rattle.reading.specs.declared.skips.Skips.{Skips}

module _ (area : List ℕ) (n : ℕ) (piece : List ℕ) (m i : ℕ) where
  pub in_area : i < n → get_or area i 0 ≡ byte_in area n piece m i
  in_area l = rw (lt-ltb i n l)

  pub in_piece : n ≤ i → get_or piece (m + (i - n)) 0 ≡ byte_in area n piece m i
  in_piece l = rw (le-ltb i n l)

  pub past_piece : n ≤ i → length piece ≤ m + (i - n) → 0 ≡ byte_in area n piece m i
  past_piece l h = sym (get_or-eq_default piece 0 h) ∙ in_piece l

module _ (a : Skips) (x v : ℕ) where
  pub count_d3 : x ≡ 0xD3 → v ≡ (a.d3 + 1) % 2 ^ 64 → ◌≡◌ {A = Skips} (record { others = a.others; d3 = v; b5 = a.b5 }) (counted a x)
  count_d3 e g = rw (eq-eqb x 0xD3 e, g)

  pub count_b5 : (x ≡ 0xD3 → ⊥) → x ≡ 0xB5 → v ≡ (a.b5 + 1) % 2 ^ 64 → ◌≡◌ {A = Skips} (record { others = a.others; d3 = a.d3; b5 = v }) (counted a x)
  count_b5 d e g = rw (ne_eqb x 0xD3 d, eq-eqb x 0xB5 e, g)

  pub count_other : (x ≡ 0xD3 → ⊥) → (x ≡ 0xB5 → ⊥) → v ≡ (a.others + 1) % 2 ^ 64 → ◌≡◌ {A = Skips} (record { others = v; d3 = a.d3; b5 = a.b5 }) (counted a x)
  count_other d e g = rw (ne_eqb x 0xD3 d, ne_eqb x 0xB5 e, g)
