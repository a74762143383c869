-- The statement of each public function allows one answer, and leaves the lent data in one way. Assumes nothing.
use mathlib.Core.Path.{◌≡◌, sym, ◌∙◌}
use mathlib.Core.List.{List}
use Prim.Native.Nat.{ℕ}
use lib.IntN.{ℤ}
use Rattle.bits.specs.Outcome.{outcome}
use Rattle.bits.specs.Crc.{crc, crc_from}
use Rattle.bits.specs.Field.{read_unsigned, read_twos, read_signmag, write_unsigned, write_twos, write_signmag}
use Rattle.bits.specs.Answers.{told_unsigned, told_signed, told_written}
use Rattle.bits.specs.declared.refusal.Refusal.{Refusal}
use Rattle.std.specs.Prelude.{Result}
use Rattle.bits.proofs.ToldLaws.{only, only_wrote, unsigned_one_to_one, signed_one_to_one}

module _ (s : List ℕ) where
  pub only_crc24q : {x y : ℕ} → x ≡ crc s → y ≡ crc s → x ≡ y
  only_crc24q p q = p ∙ sym q

  pub only_crc24q_from : (sum : ℕ) {x y : ℕ} → x ≡ crc_from sum s → y ≡ crc_from sum s → x ≡ y
  only_crc24q_from sum p q = p ∙ sym q

  pub only_read_unsigned : (p w : ℕ) {x y : Result (ℕ × ℕ) Refusal} → told_unsigned x ≡ read_unsigned s p w → told_unsigned y ≡ read_unsigned s p w → x ≡ y
  only_read_unsigned p w = only told_unsigned unsigned_one_to_one (read_unsigned s p w)

  pub only_read_twos : (p w : ℕ) {x y : Result (ℤ × ℕ) Refusal} → told_signed x ≡ read_twos s p w → told_signed y ≡ read_twos s p w → x ≡ y
  only_read_twos p w = only told_signed signed_one_to_one (read_twos s p w)

  pub only_read_signmag : (p w : ℕ) {x y : Result (ℤ × ℕ) Refusal} → told_signed x ≡ read_signmag s p w → told_signed y ≡ read_signmag s p w → x ≡ y
  only_read_signmag p w = only told_signed signed_one_to_one (read_signmag s p w)

  pub only_write_unsigned : (p w v : ℕ) {x y : Result ℕ Refusal} {t u : List ℕ}
      → outcome (told_written x) t ≡ write_unsigned s p w v → outcome (told_written y) u ≡ write_unsigned s p w v → (x ≡ y) × (t ≡ u)
  only_write_unsigned p w v = only_wrote (write_unsigned s p w v)

  pub only_write_twos : (p w : ℕ) (z : ℤ) {x y : Result ℕ Refusal} {t u : List ℕ}
      → outcome (told_written x) t ≡ write_twos s p w z → outcome (told_written y) u ≡ write_twos s p w z → (x ≡ y) × (t ≡ u)
  only_write_twos p w z = only_wrote (write_twos s p w z)

  pub only_write_signmag : (p w : ℕ) (z : ℤ) {x y : Result ℕ Refusal} {t u : List ℕ}
      → outcome (told_written x) t ≡ write_signmag s p w z → outcome (told_written y) u ≡ write_signmag s p w z → (x ≡ y) × (t ≡ u)
  only_write_signmag p w z = only_wrote (write_signmag s p w z)
