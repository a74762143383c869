-- Sums that go round at 2^64. Assumes nothing.
use Rattle.std.proofs.Common.{◌≡◌, ℕ, ◌+◌, ◌-◌, ◌%◌, ◌^◌, ◌≤◌, sym, ap, ◌∙◌, arith}

-- a sum of rests
round : (a b c : ℕ) → (a % 2 ^ 64 + b % 2 ^ 64 + c) % 2 ^ 64 ≡ (a + b + c) % 2 ^ 64
round a b c = omega arith

-- n bytes were held and t are taken of a piece from x to y; l of these are in a frame, s are skipped and m are held
module _ (f k n x y l t s m : ℕ) (e : n + t ≡ s + l + m) (o : x ≤ y) (w : t ≤ y - x) where
  same : f + k + n + (y - x) ≡ f + l + (k + s) + (m + (y - (x + t)))
  same = omega arith

  pub sum_frame : (f + k + n + (y - x)) % 2 ^ 64 ≡ ((f + l) % 2 ^ 64 + (k + s) % 2 ^ 64 + m + (y - (x + t))) % 2 ^ 64
  sum_frame = ap (λ (z : ℕ). z % 2 ^ 64) same ∙ sym (round (f + l) (k + s) (m + (y - (x + t)))) ∙ ap (λ (z : ℕ). z % 2 ^ 64) (omega arith)
