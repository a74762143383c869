-- Laws of the pen: opened it changes nothing, drawing a field is putting it, and lifted it leaves what was drawn. Assumes nothing.
use mathlib.Core.Path.{◌≡◌, refl, sym, ap, ap₂, ◌∙◌}
use mathlib.Core.Logic.{inl, inr}
use mathlib.Core.List.{List, [], ◌∷◌}
use Prim.Native.Nat.{ℕ, ◌+◌, ◌-◌, ◌*◌, ◌/◌, ◌%◌, ◌^◌, ◌≤◌, ◌<◌}
use native.Mathlib.Nat.{add-zero, mod-lt, mod-eq_of_lt, mod-one, one-mul}
use native.Mathlib.Decide.{dec_lt}
use native.Mathlib.Omega.{arith}
use lib.ListN.{length, set}
use lib.Arith.{digits_lt}
use lib.Pow.{pow_pos, pow-lt, pow_mono, pow-add, shl_exact, shl-shr, shr-shr, high, low, mod-pow-add, mod-mod-pow}
use Rattle.bits.specs.Told.{Accepted}
use Rattle.bits.specs.Field.{Reading, reading, read_unsigned, field, put_field, bit_at}
use Rattle.bits.specs.Fields.{Bytes, bits, total, put_all}
use Rattle.bits.specs.Answers.{told_unsigned}
use Rattle.std.specs.Prelude.{Result, Ok}
use Rattle.bits.specs.declared.refusal.Refusal.{Refusal}
use Rattle.bits.proofs.BitLaws.{length_put, put_outside, read_back}
use Rattle.bits.proofs.SpliceLaws.{put_split}
use Rattle.bits.proofs.SameBits.{same_bits, field_bits, bytes_put, put_same}
use Rattle.bits.proofs.EightLaws.{next_byte}
use Rattle.bits.proofs.ReadLaws.{read_tells}
use Rattle.bits.proofs.FieldsLaws.{total_one, total_append, put_one, put_append}
use Rattle.formats.specs.Put.{RoomFor, IsPut}
use Rattle.messages.proofs.ArmLaws.{not_refused}
use Rattle.messages.specs.StepsPen.{drawn}

-- ---- numbers that agree on their low bits are put alike

module _ (s : List ℕ) (p w u v : ℕ) (h : p + w ≤ length s * 8) (b : Bytes s) (e : u % 2 ^ w ≡ v % 2 ^ w) where
  pub put_alike : put_field s p w u ≡ put_field s p w v
  put_alike =
      same_bits (put_field s p w u) (put_field s p w v) (bytes_put s p w u h b) (bytes_put s p w v h b) (length_put s p w u ∙ sym (length_put s p w v)) (λ i l. left i (dec_lt i p))
    where
      right : (i : ℕ) → p ≤ i → Dec (i < p + w) → bit_at (put_field s p w u) i ≡ bit_at (put_field s p w v) i
      right i a (yes k) = field_bits (put_field s p w u) (put_field s p w v) p w (read_back s p w u h ∙ e ∙ sym (read_back s p w v h)) i a k
      right i a (no k) = put_outside s p w u i h (inr (omega arith)) ∙ sym (put_outside s p w v i h (inr (omega arith)))

      left : (i : ℕ) → Dec (i < p) → bit_at (put_field s p w u) i ≡ bit_at (put_field s p w v) i
      left i (yes k) = put_outside s p w u i h (inl k) ∙ sym (put_outside s p w v i h (inl k))
      left i (no k) = right i (omega arith) (dec_lt i (p + w))

-- a field of no bits
pub put_nothing : (s : List ℕ) (p v : ℕ) → p ≤ length s * 8 → Bytes s → put_field s p 0 v ≡ s
put_nothing s p v h b =
    let l : p + 0 ≤ length s * 8 = omega arith in
    put_alike s p 0 v (field s p 0) l b (mod-one v ∙ sym (mod-one (field s p 0))) ∙ put_same s p 0 l b

-- ---- four bytes, one after the other

module _ (s : List ℕ) (i x : ℕ) (h : i + 4 ≤ length s) (b : Bytes s) where
  -- the number, as the upper half of eight bytes
  abbrev v : ℕ
  v = x * 2 ^ 32

  upper : (j : ℕ) → v / 2 ^ (32 + j) ≡ x / 2 ^ j
  upper j = sym (shr-shr v 32 j) ∙ ap (λ (n : ℕ). n / 2 ^ j) (shl-shr x 32)

  -- after k bytes
  abbrev part : ℕ → List ℕ
  part k = put_field s (i * 8) (k * 8) (v / 2 ^ (64 - k * 8))

  turn : (k : ℕ) → k < 4 → set (part k) (i + k) (v / 2 ^ (56 - k * 8) % 256) ≡ part (k + 1)
  turn k l = next_byte s (part k) i k v refl (omega arith) (rw (length_put s (i * 8) (k * 8) (v / 2 ^ (64 - k * 8))) (omega arith)) (bytes_put s (i * 8) (k * 8) _ (omega arith) b)

  pub four_written : set (set (set (set s i (x / 2 ^ 24 % 256)) (i + 1) (x / 2 ^ 16 % 256)) (i + 2) (x / 2 ^ 8 % 256)) (i + 3) (x % 256) ≡ put_field s (i * 8) 32 x
  four_written =
      let e1 : set s i (x / 2 ^ 24 % 256) ≡ part 1 =
      ap₂ (λ (t : List ℕ) (n : ℕ). set t n (x / 2 ^ 24 % 256)) (sym (put_nothing s (i * 8) (v / 2 ^ 64) (omega arith) b)) (sym (add-zero i)) ∙ ap (λ (n : ℕ). set (part 0) (i + 0) (n % 256)) (sym (upper 24)) ∙ turn 0 (omega arith) in
      let e2 : _ ≡ part 2 = ap₂ (λ (t : List ℕ) (n : ℕ). set t (i + 1) (n % 256)) e1 (sym (upper 16)) ∙ turn 1 (omega arith) in
      let e3 : _ ≡ part 3 = ap₂ (λ (t : List ℕ) (n : ℕ). set t (i + 2) (n % 256)) e2 (sym (upper 8)) ∙ turn 2 (omega arith) in
      ap₂ (λ (t : List ℕ) (n : ℕ). set t (i + 3) (n % 256)) e3 (sym (shl-shr x 32)) ∙ turn 3 (omega arith) ∙ ap (put_field s (i * 8) 32) (shl-shr x 32)

pub length_drawn : (s : List ℕ) (p v : ℕ) → length (drawn s p v) ≡ length s
unfolding drawn
length_drawn s p v = length_put s (p / 32 * 32) (p % 32) v

-- ---- a pen is opened

module _ (s : List ℕ) (p : ℕ) (h : p ≤ length s * 8) (b : Bytes s) where
  opened : {v : ℕ} → v ≡ field s (p / 32 * 32) (p % 32) → drawn s p v ≡ s
  unfolding drawn
  opened e = ap (put_field s (p / 32 * 32) (p % 32)) e ∙ put_same s (p / 32 * 32) (p % 32) (omega arith) b

  -- where four bytes end there, it holds nothing
  pub opened_none : (v : ℕ) → p % 32 ≡ 0 → drawn s p v ≡ s
  unfolding drawn
  opened_none v e = ap (λ (n : ℕ). put_field s (p / 32 * 32) n v) e ∙ put_nothing s (p / 32 * 32) v (omega arith) b

  module _ (few : length s ≤ 1023) where
    pub opened_read : {v q : ℕ} → read_unsigned s (p / 32 * 32) (p % 32) ≡ Accepted (reading v q) → drawn s p v ≡ s
    opened_read e = opened (ap (λ (r : Reading ℕ). r.value) (read_tells (λ x. x) s (p / 32 * 32) (p % 32) e).is)

    -- a field of no bits alone is refused there
    pub opened_else : (r : Result (ℕ × ℕ) Refusal) → told_unsigned r ≡ read_unsigned s (p / 32 * 32) (p % 32) → ((v : ℕ × ℕ) → r ≡ Ok v → ⊥) → drawn s p 0 ≡ s
    opened_else r e o = go (dec_lt 0 (p % 32))
      where
        go : Dec (0 < p % 32) → drawn s p 0 ≡ s
        go (yes l) = absurd (not_refused s (p / 32 * 32) (p % 32) few (omega arith) (omega arith) (omega arith) r e o)
        go (no l) = opened_none 0 (omega arith)

-- ---- a field is drawn

-- u is what is held at bit p, and v the number of w bits
module _ (s : List ℕ) (p u w v : ℕ) (b : Bytes s) (h : p + w ≤ length s * 8) (l : w ≤ 32) (k : v < 2 ^ w) where
  -- both, as 64-bit code has them
  abbrev joined : ℕ
  joined = u * 2 ^ w % 2 ^ 64 + v

  shifted : u * 2 ^ w % 2 ^ 64 ≡ u % 2 ^ (64 - w) * 2 ^ w
  shifted =
      let e : 64 ≡ 64 - w + w = omega arith in
      let z : u * 2 ^ w % 2 ^ w ≡ 0 = ap (λ (n : ℕ). n % 2 ^ w) (sym (add-zero (u * 2 ^ w))) ∙ low u w (pow_pos w) in
      ap (λ (n : ℕ). u * 2 ^ w % 2 ^ n) e
      ∙ mod-pow-add (u * 2 ^ w) (64 - w) w
      ∙ ap₂ (λ (x y : ℕ). x % 2 ^ (64 - w) * 2 ^ w + y) (shl-shr u w) z
      ∙ add-zero (u % 2 ^ (64 - w) * 2 ^ w)

  pub joined_fits : joined < 2 ^ 64
  joined_fits =
      let d : 64 - w + w ≡ 64 = omega arith in
      let e : 2 ^ (64 - w) * 2 ^ w ≡ 2 ^ 64 = sym (pow-add 2 (64 - w) w) ∙ ap (λ (n : ℕ). 2 ^ n) d in
      omega (arith, shifted, e, digits_lt (mod-lt u (pow_pos (64 - w))) k)

  above : joined / 2 ^ w ≡ u % 2 ^ (64 - w)
  above = ap (λ (n : ℕ). (n + v) / 2 ^ w) shifted ∙ high (u % 2 ^ (64 - w)) w k

  below : joined % 2 ^ w ≡ v % 2 ^ w
  below = ap (λ (n : ℕ). (n + v) % 2 ^ w) shifted ∙ low (u % 2 ^ (64 - w)) w k ∙ sym (mod-eq_of_lt k)

  -- putting both at once
  at_once : put_field s (p / 32 * 32) (p % 32 + w) joined ≡ put_field (drawn s p u) p w v
  unfolding drawn
  at_once =
      let at : p / 32 * 32 + p % 32 ≡ p = omega arith in
      let d : 64 - w ≡ 64 - w - p % 32 + p % 32 = omega arith in
      let c : u % 2 ^ (64 - w) % 2 ^ (p % 32) ≡ u % 2 ^ (p % 32) = ap (λ (n : ℕ). u % 2 ^ n % 2 ^ (p % 32)) d ∙ mod-mod-pow u (64 - w - p % 32) (p % 32) in
      let t = put_field s (p / 32 * 32) (p % 32) u in
      put_split s (p / 32 * 32) (p % 32) w joined
      ∙ ap₂ (λ (r : List ℕ) (n : ℕ). put_field r n w joined)
      (ap (put_field s (p / 32 * 32) (p % 32)) above ∙ put_alike s (p / 32 * 32) (p % 32) (u % 2 ^ (64 - w)) u (omega arith) b c)
      at
      ∙ put_alike t p w joined v (rw (length_put s (p / 32 * 32) (p % 32) u) h) (bytes_put s (p / 32 * 32) (p % 32) u (omega arith) b) below

  -- fewer than 32 bits are held then
  pub drawn_few : p % 32 + w < 32 → drawn s (p + w) joined ≡ put_field (drawn s p u) p w v
  unfolding drawn
  drawn_few f =
      let q : (p + w) / 32 * 32 ≡ p / 32 * 32 = omega arith in
      let c : (p + w) % 32 ≡ p % 32 + w = omega arith in
      ap₂ (λ (x y : ℕ). put_field s x y joined) q c ∙ at_once

  -- or else the first 32 of them are stored
  pub drawn_four : 32 ≤ p % 32 + w → {t : List ℕ} → t ≡ put_field s (p / 32 * 4 * 8) 32 (joined / 2 ^ ((p + w) % 32)) → drawn t (p + w) joined ≡ put_field (drawn s p u) p w v
  unfolding drawn
  drawn_four f {t} e =
      let a : p / 32 * 4 * 8 ≡ p / 32 * 32 = omega arith in
      let q : (p + w) / 32 * 32 ≡ p / 32 * 32 + 32 = omega arith in
      let c : 32 + (p + w) % 32 ≡ p % 32 + w = omega arith in
      ap₂ (λ (r : List ℕ) (n : ℕ). put_field r n ((p + w) % 32) joined) (e ∙ ap (λ (n : ℕ). put_field s n 32 (joined / 2 ^ ((p + w) % 32))) a) q
      ∙ sym (put_split s (p / 32 * 32) 32 ((p + w) % 32) joined)
      ∙ ap (λ (n : ℕ). put_field s (p / 32 * 32) n joined) c
      ∙ at_once

-- ---- a field behind what is drawn

pub one_within : (s : List ℕ) (p v : ℕ) {w x : ℕ} → RoomFor (drawn s p v) p (bits w x ∷ []) → (length s ≤ 1023) × (p + w ≤ length s * 8)
one_within s p v {w} {x} f = (omega (arith, f.few, length_drawn s p v), omega (arith, f.within, total_one w x, length_drawn s p v))

pub one_put : (s : List ℕ) (p w x : ℕ) {t : List ℕ} → t ≡ put_field s p w x → IsPut s p (bits w x ∷ []) t (p + w)
one_put s p w x e = record { end = ap (λ (n : ℕ). p + n) (sym (total_one w x)); left = e ∙ sym (put_one s p w x) }

-- ---- two numbers as one

-- as 64-bit code joins them
pub two_fit : (m x n y : ℕ) → m + n ≤ 32 → x < 2 ^ m → y < 2 ^ n → (x * 2 ^ n % 2 ^ 64 + y ≡ x * 2 ^ n + y) × (x * 2 ^ n % 2 ^ 64 + y < 2 ^ (m + n)) × (x * 2 ^ n % 2 ^ 64 + y < 2 ^ 64)
two_fit m x n y h a b =
    let e : x * 2 ^ n % 2 ^ 64 ≡ x * 2 ^ n = shl_exact m n 64 a (omega arith) in
    let l : x * 2 ^ n + y < 2 ^ (m + n) = rw (pow-add 2 m n) (digits_lt a b) in
    let k : 2 ^ (m + n) ≤ 2 ^ 32 = pow_mono {j = 32} h in
    rw e (refl, l, omega arith)

-- the bits of two fields
two_bits : (m x n y : ℕ) → total (bits m x ∷ bits n y ∷ []) ≡ m + n
two_bits m x n y = total_append (bits m x ∷ []) (bits n y ∷ []) ∙ ap₂ ◌+◌ (total_one m x) (total_one n y)

module _ (s : List ℕ) (p m x n y : ℕ) (f : RoomFor s p (bits m x ∷ bits n y ∷ [])) where
  pub two_room : (v : ℕ) → RoomFor s p (bits (m + n) v ∷ [])
  two_room v = record { few = f.few; within = omega (arith, f.within, two_bits m x n y, total_one (m + n) v) }

  pub two_put : Bytes s → y < 2 ^ n → {t : List ℕ} {q v : ℕ} → v ≡ x * 2 ^ n + y → IsPut s p (bits (m + n) v ∷ []) t q → IsPut s p (bits m x ∷ bits n y ∷ []) t q
  two_put b h {t} {q} {v} e d =
      let room = f.within in
      let all = two_bits m x n y in
      let above : v / 2 ^ n ≡ x = ap (λ (k : ℕ). k / 2 ^ n) e ∙ high x n h in
      let below : v % 2 ^ n ≡ y % 2 ^ n = ap (λ (k : ℕ). k % 2 ^ n) e ∙ low x n h ∙ sym (mod-eq_of_lt h) in
      record {
        end = d.end ∙ ap (λ (k : ℕ). p + k) (total_one (m + n) v ∙ sym all);
        left =
            d.left
            ∙ put_one s p (m + n) v
            ∙ put_split s p m n v
            ∙ ap (λ (k : ℕ). put_field (put_field s p m k) (p + m) n v) above
            ∙ put_alike (put_field s p m x) (p + m) n v y (rw (length_put s p m x) (omega (arith, room, all))) (bytes_put s p m x (omega (arith, room, all)) b) below
            ∙ sym (put_append s p (bits m x ∷ []) (bits n y ∷ [])
            ∙ ap₂ (λ (r : List ℕ) (k : ℕ). put_all r (p + k) (bits n y ∷ [])) (put_one s p m x) (total_one m x)
            ∙ put_one (put_field s p m x) (p + m) n y);
      }

-- ---- the pen is lifted

-- a bit of a word
pub one_bit : (c : ℕ) → c < 64 → 1 * 2 ^ c % 2 ^ 64 ≡ 2 ^ c
one_bit c h = rw one-mul (mod-eq_of_lt (pow-lt h))

module _ (s : List ℕ) (p v : ℕ) (h : p ≤ length s * 8) where
  -- what is held, as 64-bit code cuts it off
  abbrev rest : ℕ
  rest = v % (1 * 2 ^ (p % 32) % 2 ^ 64)

  rest_is : rest ≡ v % 2 ^ (p % 32)
  rest_is = ap (λ (n : ℕ). v % n) (one_bit (p % 32) (omega arith))

  pub rest_fits : length s ≤ 1023 → 1 ≤ p % 32 → RoomFor s (p - p % 32) (bits (p % 32) rest ∷ []) × (1 ≤ p % 32) × (p % 32 ≤ 64) × (rest < 2 ^ (p % 32))
  rest_fits few low =
      let t = total_one (p % 32) rest in
      (record { few = few; within = omega (arith, t, h) }, low, omega arith, rw rest_is (mod-lt v (pow_pos (p % 32))))

  pub lifted : Bytes s → {t : List ℕ} → t ≡ put_field s (p - p % 32) (p % 32) rest → t ≡ drawn s p v
  unfolding drawn
  lifted b {t} d =
      let f : p - p % 32 ≡ p / 32 * 32 = omega arith in
      d
      ∙ ap₂ (λ (m n : ℕ). put_field s m (p % 32) n) f rest_is
      ∙ put_alike s (p / 32 * 32) (p % 32) (v % 2 ^ (p % 32)) v (omega arith) b (mod-eq_of_lt (mod-lt v (pow_pos (p % 32))))

pub bytes_drawn : (s : List ℕ) (p v : ℕ) → p ≤ length s * 8 → Bytes s → Bytes (drawn s p v)
unfolding drawn
bytes_drawn s p v h b = bytes_put s (p / 32 * 32) (p % 32) v (omega arith) b
