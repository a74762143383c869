-- A word that is folded into words behind it leaves the checksum as it is. Each fold is one computed test. Assumes nothing.
use mathlib.Core.Path.{◌≡◌, refl, sym, ap, ◌∙◌}
use mathlib.Core.List.{[], ◌∷◌}
use Prim.Native.Nat.{ℕ, ◌*◌, ◌/◌, ◌%◌, ◌^◌, ◌<◌}
use lib.Bits.{bit_xor}
use Rattle.bits.specs.Crc.{crc_bit, crc_bits}
use Rattle.bits.specs.FoldSteps.{rem, up, ups, down, near, far, nearer, farther, upper, lower, next, sixty, quotient, paired, product}
use Rattle.bits.proofs.CrcLaws.{bits_linear}
use Rattle.bits.proofs.LinearLaws.{Linear, by_test, shr_linear, shl_linear, mod_linear, xor_linear, over_linear, ups_linear, downs_linear, after}
use Rattle.bits.proofs.RemLaws.{rem_linear}

same_linear : Linear (λ (x : ℕ). x)
same_linear x y = refl

-- ---- every fold respects exclusive-or

near_linear : Linear near
unfolding near
near_linear = downs_linear 10 (14 ∷ 30 ∷ 42 ∷ [])

far_linear : Linear far
unfolding far
far_linear = xor_linear (ups 54 (50 ∷ 34 ∷ 22 ∷ [])) (λ (x : ℕ). x) (ups_linear 54 (50 ∷ 34 ∷ 22 ∷ [])) same_linear

nearer_linear : Linear nearer
unfolding nearer
nearer_linear = downs_linear 5 (7 ∷ 15 ∷ 21 ∷ 32 ∷ [])

farther_linear : Linear farther
unfolding farther
farther_linear = ups_linear 59 (57 ∷ 49 ∷ 43 ∷ 32 ∷ [])

upper_linear : Linear upper
unfolding upper
upper_linear = xor_linear (ups 27 (25 ∷ 17 ∷ 11 ∷ [])) (λ (x : ℕ). x) (ups_linear 27 (25 ∷ 17 ∷ 11 ∷ [])) same_linear

lower_linear : Linear lower
unfolding lower
lower_linear = ups_linear 30 (27 ∷ 25 ∷ 24 ∷ 23 ∷ 17 ∷ 14 ∷ 12 ∷ 5 ∷ [])

next_linear : Linear next
unfolding next
next_linear =
    xor_linear (λ (u : ℕ). upper (u / 2 ^ 32)) (λ (u : ℕ). lower (u % 2 ^ 32))
    (after upper (down 32) upper_linear (shr_linear 32)) (after lower (λ (u : ℕ). u % 2 ^ 32) lower_linear (mod_linear 32))

-- ---- the folds

-- the checksum of a function of a word, alone and with k bits behind it
read_linear : (f : ℕ → ℕ) → Linear f → Linear (λ (u : ℕ). rem 64 (f u))
read_linear f l = after (rem 64) f (rem_linear 64) l

moved_linear : (k : ℕ) (f : ℕ → ℕ) → Linear f → Linear (λ (u : ℕ). crc_bits k (rem 64 (f u)))
moved_linear k f l = after (crc_bits k) (λ (u : ℕ). rem 64 (f u)) (bits_linear k) (read_linear f l)

both_linear : (f g : ℕ → ℕ) → Linear f → Linear g → Linear (λ (u : ℕ). bit_xor (crc_bits 64 (rem 64 (f u))) (rem 64 (g u)))
both_linear f g lf lg = xor_linear (λ (u : ℕ). crc_bits 64 (rem 64 (f u))) (λ (u : ℕ). rem 64 (g u)) (moved_linear 64 f lf) (read_linear g lg)

pub fold_three : (u : ℕ) → u < 2 ^ 64 → crc_bits 192 (rem 64 u) ≡ bit_xor (crc_bits 64 (rem 64 (near u))) (rem 64 (far u))
unfolding rem crc_bits crc_bit near far
fold_three =
    by_test (λ (u : ℕ). crc_bits 192 (rem 64 u)) (λ (u : ℕ). bit_xor (crc_bits 64 (rem 64 (near u))) (rem 64 (far u)))
    (moved_linear 192 (λ (u : ℕ). u) same_linear) (both_linear near far near_linear far_linear) 64 tt

pub fold_two : (u : ℕ) → u < 2 ^ 64 → crc_bits 128 (rem 64 u) ≡ bit_xor (crc_bits 64 (rem 64 (nearer u))) (rem 64 (farther u))
unfolding rem crc_bits crc_bit nearer farther
fold_two =
    by_test (λ (u : ℕ). crc_bits 128 (rem 64 u)) (λ (u : ℕ). bit_xor (crc_bits 64 (rem 64 (nearer u))) (rem 64 (farther u)))
    (moved_linear 128 (λ (u : ℕ). u) same_linear) (both_linear nearer farther nearer_linear farther_linear) 64 tt

pub fold_one : (u : ℕ) → u < 2 ^ 64 → crc_bits 64 (rem 64 u) ≡ rem 64 (next u)
unfolding rem crc_bits crc_bit next upper lower
fold_one =
    by_test (λ (u : ℕ). crc_bits 64 (rem 64 u)) (λ (u : ℕ). rem 64 (next u))
    (moved_linear 64 (λ (u : ℕ). u) same_linear) (read_linear next next_linear) 64 tt

-- a checksum that goes on over a word lies in the word's top 24 bits
pub top : (d : ℕ) → d < 2 ^ 32 → crc_bits 64 d ≡ rem 64 (d * 2 ^ 40 % 2 ^ 64)
unfolding rem crc_bits crc_bit
top = by_test (crc_bits 64) (λ (d : ℕ). rem 64 (up 40 d)) (bits_linear 64) (read_linear (up 40) (shl_linear 40 64)) 32 tt

-- ---- the last word

sixty_linear : Linear sixty
unfolding sixty
sixty_linear =
    xor_linear (λ (w : ℕ). w * 2 ^ 28 % 2 ^ 64 / 2 ^ 4) (λ (w : ℕ). ups 32 (28 ∷ 23 ∷ 19 ∷ 9 ∷ 5 ∷ 1 ∷ []) (w / 2 ^ 36))
    (after (down 4) (up 28) (shr_linear 4) (shl_linear 28 64))
    (after (ups 32 (28 ∷ 23 ∷ 19 ∷ 9 ∷ 5 ∷ 1 ∷ [])) (down 36) (ups_linear 32 (28 ∷ 23 ∷ 19 ∷ 9 ∷ 5 ∷ 1 ∷ [])) (shr_linear 36))

quotient_linear : Linear quotient
unfolding quotient
quotient_linear =
    over_linear down shr_linear (λ (x : ℕ). x) same_linear
    (1 ∷ 2 ∷ 3 ∷ 4 ∷ 5 ∷ 10 ∷ 14 ∷ 16 ∷ 17 ∷ 18 ∷ 19 ∷ 20 ∷ 21 ∷ 22 ∷ 23 ∷ 27 ∷ 30 ∷ 33 ∷ 36 ∷ [])

paired_linear : Linear paired
unfolding paired
paired_linear = xor_linear (ups 23 (17 ∷ 10 ∷ 6 ∷ 4 ∷ [])) (λ (x : ℕ). x) (ups_linear 23 (17 ∷ 10 ∷ 6 ∷ 4 ∷ [])) same_linear

product_linear : Linear product
unfolding product
product_linear =
    xor_linear (λ (q : ℕ). bit_xor (paired (bit_xor q (up 1 q))) (up 14 q)) (up 3)
    (xor_linear (λ (q : ℕ). paired (bit_xor q (up 1 q))) (up 14)
    (after paired (λ (q : ℕ). bit_xor q (up 1 q)) paired_linear (xor_linear (λ (q : ℕ). q) (up 1) same_linear (shl_linear 1 64)))
    (shl_linear 14 64))
    (shl_linear 3 64)

-- what a division leaves of a number whose lowest 24 bits stand as they are
left : ℕ → ℕ
left v = bit_xor (product (quotient (v / 2 ^ 24))) v % 2 ^ 24

left_linear : Linear left
unfolding left
left_linear =
    after (λ (v : ℕ). v % 2 ^ 24) (λ (v : ℕ). bit_xor (product (quotient (v / 2 ^ 24))) v) (mod_linear 24)
    (xor_linear (λ (v : ℕ). product (quotient (v / 2 ^ 24))) (λ (v : ℕ). v)
    (after product (λ (v : ℕ). quotient (v / 2 ^ 24)) product_linear (after quotient (down 24) quotient_linear (shr_linear 24)))
    same_linear)

divided : (w : ℕ) → w < 2 ^ 64 → rem 64 w ≡ left (sixty w)
unfolding rem crc_bits crc_bit left product paired quotient sixty
divided =
    by_test (rem 64) (λ (w : ℕ). left (sixty w)) (rem_linear 64) (after left sixty left_linear sixty_linear) 64 tt

pub last_word : (w v : ℕ) → w < 2 ^ 64 → v ≡ sixty w → bit_xor (product (quotient (v / 2 ^ 24))) v % 2 ^ 24 ≡ rem 64 w
unfolding left
last_word w v h e = ap left e ∙ sym (divided w h)
