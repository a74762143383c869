-- The rule of the weights, proved by one test that is computed, from each weight to the one behind it. Assumes nothing.
use mathlib.Core.Path.{◌≡◌, refl, sym, ap, ◌∙◌}
use mathlib.Core.Bool.{Bool, false}
use mathlib.Core.List.{List, [], ◌∷◌}
use Prim.Native.Nat.{ℕ, zero, suc, ◌+◌, ◌-◌, ◌*◌, ◌<◌}
use native.Mathlib.Nat.{le_of_suc-le-suc, not-suc-le-zero, zero-mul}
use native.Mathlib.Omega.{arith}
use lib.Dec.{T, eqb, eqb→eq}
use lib.ListN.{length, get_or}
use Rattle.bits.specs.Crc.{crc_bits}
use Rattle.bits.proofs.CrcLaws.{bits_none}
use Rattle.bits.proofs.RemLaws.{bits_add}
use Rattle.bits.proofs.EveryPlace.{both, both_left, both_right}
use Rattle.window.specs.Steps.{Weights}
use Rattle.window.specs.Weights.{weights}
use Rattle.window.proofs.MoveLaws.{move, moves, moves_are}

-- each number is the next one moved on by eight bits, and the last is the weight of the last byte
abbrev chained : List ℕ → Bool
chained [] = false
chained (a ∷ []) = eqb a 0x864CFB
chained (a ∷ b ∷ w) = both (eqb a (moves 8 b)) (chained (b ∷ w))

first_of : (b : ℕ) (w : List ℕ) → T (chained (b ∷ w)) → b ≡ crc_bits (length w * 8) 0x864CFB
first_of b [] t = eqb→eq b 0x864CFB t ∙ sym (ap (λ (k : ℕ). crc_bits k 0x864CFB) (zero-mul 8) ∙ bits_none 0x864CFB)
first_of a (b ∷ w) t =
    let e : suc (length w) * 8 ≡ 8 + length w * 8 = omega arith in
    eqb→eq a (moves 8 b) (both_left (eqb a (moves 8 b)) (chained (b ∷ w)) t)
    ∙ moves_are 8 b
    ∙ ap (crc_bits 8) (first_of b w (both_right (eqb a (moves 8 b)) (chained (b ∷ w)) t))
    ∙ sym (bits_add 8 (length w * 8) 0x864CFB)
    ∙ ap (λ (k : ℕ). crc_bits k 0x864CFB) (sym e)

every : (w : List ℕ) → T (chained w) → (k : ℕ) → k < length w → get_or w k 0 ≡ crc_bits ((length w - suc k) * 8) 0x864CFB
every [] t k h = absurd t
every (a ∷ w) t zero h =
    let e : length w ≡ suc (length w) - 1 = omega arith in
    first_of a w t ∙ ap (λ (n : ℕ). crc_bits (n * 8) 0x864CFB) e
every (a ∷ []) t (suc k) h = absurd (not-suc-le-zero (le_of_suc-le-suc h))
every (a ∷ b ∷ w) t (suc k) h =
    let e : suc (length w) - suc k ≡ suc (suc (length w)) - suc (suc k) = omega arith in
    every (b ∷ w) (both_right (eqb a (moves 8 b)) (chained (b ∷ w)) t) k (le_of_suc-le-suc h) ∙ ap (λ (n : ℕ). crc_bits (n * 8) 0x864CFB) e

passed : T (chained weights)
unfolding weights moves move
passed = tt

many : length weights ≡ 4096
unfolding weights
many = refl

pub weights_are : Weights weights
weights_are =
    record {
      rule = λ k h.
          let e : length weights - suc k ≡ 4095 - k = omega (arith, many) in
          every weights passed k (omega (arith, many)) ∙ ap (λ (n : ℕ). crc_bits (n * 8) 0x864CFB) e;
    }
