-- The block of message 1230 as its writer joins it: the bits of the mask, and the biases of their signals as one number. Assumes nothing.
use mathlib.Core.Path.{◌≡◌, refl, sym, ap, ◌∙◌}
use mathlib.Core.Bool.{Bool, true, false, cond}
use mathlib.Core.List.{List, [], ◌∷◌, ◌++◌, map}
use Prim.Native.Nat.{ℕ, ◌+◌, ◌*◌, ◌^◌, ◌≤◌, ◌<◌}
use native.Mathlib.Omega.{arith}
use lib.ListN.{length}
use lib.IntN.{ℤ}
use lib.Pow.{pow_pos, pow_mono}
use Rattle.bits.specs.Field.{put_field}
use Rattle.bits.specs.Fields.{Field, Bytes, bits, total, put_all}
use Rattle.bits.proofs.FieldsLaws.{total_next}
use Rattle.messages.specs.Records.{signal_of1230, records1230}
use Rattle.messages.specs.Layout1230.{mask_signals, of_signal, mask_of}
use Rattle.messages.specs.Write1230.{is_in, fields1230}
use Rattle.messages.specs.StepsWrite1230.{bias_fields1230, joined, Faultless1230}
use Rattle.messages.proofs.RepeatLaws.{once}
use Rattle.messages.proofs.Fields1230Laws.{mask_is, laid, total_16, bits_is}
use Rattle.messages.proofs.JoinLaws.{joined_append, joined_none, joined_lt, put_run_lem}

bit_small : (b : Bool) → cond b 1 0 ≤ 1
bit_small true = omega arith
bit_small false = omega arith

module _ (gs : List ℕ) (zs : List ℤ) (f : Faultless1230 gs zs) where
  abbrev part : ℕ → List Field
  part g = bias_fields1230 (of_signal g (records1230 gs zs))

  -- one signal more: its bit below m, and its biases below v
  abbrev Step : ℕ → ℕ → ℕ → ℕ → ℕ → Type 0
  Step g m v m' v' = (m' ≡ m * 2 + cond (is_in g gs) 1 0) × (v' ≡ joined v (part g))

  longer : (g j : ℕ) {v v' : ℕ} → v < 2 ^ j → v' ≡ joined v (part g) → v' < 2 ^ (j + 16)
  longer g j {v} h e =
      let n : total (part g) ≤ 16 = omega (arith, total_16 (of_signal g (records1230 gs zs)), once g 0 [] gs zs f.even f.single, bit_small (is_in g gs)) in
      let l : joined v (part g) < 2 ^ (j + total (part g)) = joined_lt j v (part g) h in
      let k : 2 ^ (j + total (part g)) ≤ 2 ^ (j + 16) = pow_mono {i = j + total (part g)} {j = j + 16} (omega arith) in
      omega arith

  module _ {m1 v1 : ℕ} (e1 : Step 2 0 0 m1 v1) where
    one_long : v1 < 2 ^ 16
    one_long = longer 2 0 (pow_pos 0) e1.1

    pub after_one : (m1 < 8) × (v1 < 2 ^ 48)
    after_one = (omega (arith, e1.0, bit_small (is_in 2 gs)), omega (arith, one_long))

    module _ {m2 v2 : ℕ} (e2 : Step 3 m1 v1 m2 v2) where
      two_long : v2 < 2 ^ 32
      two_long = longer 3 16 one_long e2.1

      pub after_two : (m2 < 8) × (v2 < 2 ^ 48)
      after_two = (omega (arith, e1.0, e2.0, bit_small (is_in 2 gs), bit_small (is_in 3 gs)), omega (arith, two_long))

      module _ {m3 v3 : ℕ} (e3 : Step 8 m2 v2 m3 v3) where
        pub after_three : (m3 < 8) × (v3 < 2 ^ 48)
        after_three = (omega (arith, e1.0, e2.0, e3.0, bit_small (is_in 2 gs), bit_small (is_in 3 gs), bit_small (is_in 8 gs)), longer 8 32 two_long e3.1)

        module _ {m v : ℕ} (e4 : Step 9 m3 v3 m v) where
          behind : List Field
          behind = part 2 ++ (part 3 ++ (part 8 ++ (part 9 ++ [])))

          all_behind : v ≡ joined 0 behind
          unfolding behind
          all_behind =
              e4.1
              ∙ ap (λ (x : ℕ). joined x (part 9)) (e3.1 ∙ ap (λ (x : ℕ). joined x (part 8)) (e2.1 ∙ ap (λ (x : ℕ). joined x (part 3)) e1.1))
              ∙ sym (joined_append 0 (part 2) (part 3 ++ (part 8 ++ (part 9 ++ [])))
              ∙ joined_append (joined 0 (part 2)) (part 3) (part 8 ++ (part 9 ++ []))
              ∙ joined_append (joined (joined 0 (part 2)) (part 3)) (part 8) (part 9 ++ [])
              ∙ joined_append (joined (joined (joined 0 (part 2)) (part 3)) (part 8)) (part 9) []
              ∙ joined_none (joined (joined (joined (joined 0 (part 2)) (part 3)) (part 8)) (part 9)) refl)

          laid_out : fields1230 (records1230 gs zs) ≡ bits 4 m ∷ behind
          unfolding behind
          laid_out =
              let k = mask_is gs zs f.even (cond (is_in 2 gs) 1 0) (cond (is_in 3 gs) 1 0) (cond (is_in 8 gs) 1 0) (cond (is_in 9 gs) 1 0) refl refl refl refl in
              let e : mask_of mask_signals (map signal_of1230 (records1230 gs zs)) ≡ m = omega (arith, k, e1.0, e2.0, e3.0, e4.0) in
              laid gs zs m e

          bits_behind : total behind ≡ length gs * 16
          bits_behind = omega (arith, total_next 4 m behind, ap total laid_out, bits_is gs zs f.even f.known)

          pub after_four : (m < 16) × (v < 2 ^ (length gs * 16))
          after_four =
              let n : 0 + total behind ≡ length gs * 16 = omega (arith, bits_behind) in
              (omega (arith, after_three.0, e4.0, bit_small (is_in 9 gs)), rw (all_behind, sym n) (joined_lt 0 0 behind (pow_pos 0)))

          pub block_joined : (s : List ℕ) (p : ℕ) → p + (4 + length gs * 16) ≤ length s * 8 → Bytes s
              → put_field s p (4 + length gs * 16) (m * 2 ^ (length gs * 16) + v) ≡ put_all s p (fields1230 (records1230 gs zs))
          block_joined s p h b = put_run_lem s p 4 m behind (length gs * 16) bits_behind h b all_behind ∙ ap (put_all s p) (sym laid_out)
