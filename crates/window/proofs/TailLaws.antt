-- The checksums of tails: how one follows from the next, and what two of them tell of the bytes between. Assumes nothing.
use mathlib.Core.Path.{◌≡◌, refl, sym, ap, ap₂, ◌∙◌}
use mathlib.Core.List.{List, [], ◌∷◌, ◌++◌, append_assoc}
use Prim.Native.Nat.{ℕ, zero, suc, ◌+◌, ◌-◌, ◌*◌, ◌^◌, ◌≤◌, ◌<◌}
use native.Mathlib.Nat.{le_of_suc-le-suc, not-suc-le-zero, zero-mul}
use native.Mathlib.Omega.{arith}
use lib.ListN.{length, get_or, set, take, drop, length-drop}
use lib.Seq.{drop-cons, take-suc, append_snoc, set_at, length-take-le, take-add, drop-drop}
use lib.Bits.{bit_xor, xor_comm, xor_zero_r, xor_self, xor_lt}
use Rattle.bits.specs.Onto.{over}
use Rattle.bits.specs.Fields.{Bytes}
use Rattle.bits.specs.Field.{field}
use Rattle.bits.specs.Crc.{crc_bits, crc_byte, crc_from, crc}
use Rattle.bits.proofs.CrcLaws.{bits_none, bits_zero, byte_is, from_nil, from_cons, crc_is, bits_linear, crc_below, crc_append}
use Rattle.bits.proofs.FieldLaws.{field_lt}
use Rattle.bits.proofs.RemLaws.{bits_add}
use Rattle.bits.proofs.XorLaws.{xor_assoc}
use Rattle.damage.proofs.BackLaws.{xor_none, xor_cancel, bits_back}
use Rattle.damage.proofs.FeedLaws.{feed_24, feed_bytes}
use Rattle.window.specs.Tails.{tails}
use Rattle.window.specs.Steps.{times, low}
use Rattle.window.proofs.MoveLaws.{low_linear}
use Rattle.window.proofs.ProductLaws.{product}

-- ---- a checksum continued is the start moved on, and the checksum of the bytes

byte_split : (c b : ℕ) → crc_byte c b ≡ bit_xor (crc_bits 8 c) (crc_byte 0 b)
byte_split c b =
    byte_is c b
    ∙ bits_linear 8 (b * 2 ^ 16) c
    ∙ xor_comm (crc_bits 8 (b * 2 ^ 16)) (crc_bits 8 c)
    ∙ ap (bit_xor (crc_bits 8 c)) (ap (crc_bits 8) (sym (xor_zero_r (b * 2 ^ 16))) ∙ sym (byte_is 0 b))

pub parted : (s : List ℕ) (c : ℕ) → crc_from c s ≡ bit_xor (crc_bits (length s * 8) c) (crc_from 0 s)
parted [] c =
    from_nil c ∙ sym (ap₂ bit_xor (ap (λ (k : ℕ). crc_bits k c) (zero-mul 8) ∙ bits_none c) (from_nil 0) ∙ xor_zero_r c)
parted (b ∷ s) c =
    let n = length s * 8 in
    let q = crc_bits n (crc_byte 0 b) in
    let r = crc_from 0 s in
    let e : suc (length s) * 8 ≡ n + 8 = omega arith in
    from_cons c b s
    ∙ parted s (crc_byte c b)
    ∙ ap (λ (k : ℕ). bit_xor (crc_bits n k) r) (byte_split c b)
    ∙ ap (λ (k : ℕ). bit_xor k r) (bits_linear n (crc_bits 8 c) (crc_byte 0 b))
    ∙ xor_assoc (crc_bits n (crc_bits 8 c)) q r
    ∙ ap₂ bit_xor (sym (bits_add n 8 c) ∙ ap (λ (k : ℕ). crc_bits k c) (sym e)) (sym (parted s (crc_byte 0 b)) ∙ sym (from_cons 0 b s))

-- the checksum of a tail, by its first byte and the next tail
first : (b : ℕ) (s : List ℕ) → crc (b ∷ s) ≡ bit_xor (crc s) (crc_bits (length s * 8) (crc_byte 0 b))
first b s =
    crc_is (b ∷ s) ∙ from_cons 0 b s ∙ parted s (crc_byte 0 b)
    ∙ xor_comm (crc_bits (length s * 8) (crc_byte 0 b)) (crc_from 0 s)
    ∙ ap (λ (k : ℕ). bit_xor k (crc_bits (length s * 8) (crc_byte 0 b))) (sym (crc_is s))

-- ---- one tail more

module _ (s : List ℕ) (k w sum : ℕ) (h : k < length s) (hb : get_or s k 0 < 2 ^ 8) (hw : w < 2 ^ 24)
    (e : w ≡ crc_bits ((length s - suc k) * 8) 0x864CFB) (f : low sum ≡ crc (drop (suc k) s)) where
  pub one_more : low (bit_xor sum (times (get_or s k 0) w)) ≡ crc (drop k s)
  one_more =
      let m = (length s - suc k) * 8 in
      low_linear sum (times (get_or s k 0) w)
      ∙ ap₂ bit_xor f (product (get_or s k 0) w m hw e hb ∙ ap (λ (n : ℕ). crc_bits (n * 8) (crc_byte 0 (get_or s k 0))) (sym (length-drop (suc k) s)))
      ∙ sym (first (get_or s k 0) (drop (suc k) s))
      ∙ ap crc (sym (drop-cons s k 0 h))

-- ---- the area that is written, from its end on

pub length_tails : (s : List ℕ) → length (tails s) ≡ suc (length s)
unfolding tails
length_tails [] = refl
length_tails (b ∷ s) = ap suc (length_tails s)

pub tails_more : (s : List ℕ) (k : ℕ) → k < length s → tails (drop k s) ≡ crc (drop k s) ∷ tails (drop (suc k) s)
unfolding tails
tails_more s k h =
    let d = drop-cons s k 0 h in
    ap tails d ∙ ap (λ (l : List ℕ). crc l ∷ tails (drop (suc k) s)) (sym d)

pub written : (xs d : List ℕ) (k v : ℕ) → k < length d → set (over (suc k) xs d) k v ≡ over k (v ∷ xs) d
written xs d k v h =
    let r = drop (suc k + length xs) d in
    let a = append_assoc (take (suc k) d) xs r in
    let e : suc k + length xs ≡ k + suc (length xs) = omega arith in
    ap (λ (l : List ℕ). set l k v)
    (a
    ∙ ap (λ (l : List ℕ). l ++ (xs ++ r)) (take-suc d k 0 h)
    ∙ append_snoc (take k d) (get_or d k 0) (xs ++ r))
    ∙ set_at (take k d) (get_or d k 0) (xs ++ r) v k (length-take-le k d (omega arith))
    ∙ ap (λ (n : ℕ). take k d ++ (v ∷ (xs ++ drop n d))) e
    ∙ sym (append_assoc (take k d) (v ∷ xs) (drop (k + suc (length xs)) d))

-- ---- the tails at their places

pub tails_at : (s : List ℕ) (k : ℕ) → k ≤ length s → get_or (tails s) k 0 ≡ crc (drop k s)
unfolding tails
tails_at [] zero h = refl
tails_at [] (suc k) h = absurd (not-suc-le-zero h)
tails_at (b ∷ s) zero h = refl
tails_at (b ∷ s) (suc k) h = tails_at s k (le_of_suc-le-suc h)

-- ---- what two tails tell

-- a start is told by what it is continued to
only : (s : List ℕ) (c d : ℕ) → c < 2 ^ 24 → d < 2 ^ 24 → crc_from c s ≡ crc_from d s → c ≡ d
only s c d hc hd e =
    bits_back (length s * 8) c d hc hd
    (xor_cancel (crc_from 0 s) (crc_bits (length s * 8) c) (crc_bits (length s * 8) d)
    (xor_comm (crc_from 0 s) (crc_bits (length s * 8) c) ∙ sym (parted s c) ∙ e ∙ parted s d ∙ xor_comm (crc_bits (length s * 8) d) (crc_from 0 s)))

module _ (s : List ℕ) (i m end : ℕ) (h : i + m ≤ end) where
  -- the bytes from place i up to the end are m bytes and those behind them
  split : take (end - i) (drop i s) ≡ take m (drop i s) ++ take (end - (i + m)) (drop (i + m) s)
  split =
      let e : end - i ≡ m + (end - (i + m)) = omega arith in
      ap (λ (n : ℕ). take n (drop i s)) e
      ∙ take-add m (end - (i + m)) (drop i s)
      ∙ ap (λ (l : List ℕ). take m (drop i s) ++ take (end - (i + m)) l) (drop-drop m i s)

  -- the tail from place i on is that from place i + m on, continued from the m bytes
  across : crc (take (end - i) (drop i s)) ≡ crc_from (crc (take m (drop i s))) (take (end - (i + m)) (drop (i + m) s))
  across = ap crc split ∙ crc_append (take m (drop i s)) (take (end - (i + m)) (drop (i + m) s))

  -- equal tails: the checksum of the bytes between is 0
  pub level : crc (take (end - i) (drop i s)) ≡ crc (take (end - (i + m)) (drop (i + m) s)) → crc (take m (drop i s)) ≡ 0
  level e =
      let r = take (end - (i + m)) (drop (i + m) s) in
      only r (crc (take m (drop i s))) 0 (crc_below (take m (drop i s))) (omega arith) (sym across ∙ e ∙ crc_is r)

  pub level_back : crc (take m (drop i s)) ≡ 0 → crc (take (end - i) (drop i s)) ≡ crc (take (end - (i + m)) (drop (i + m) s))
  level_back e =
      let r = take (end - (i + m)) (drop (i + m) s) in
      across ∙ ap (λ (c : ℕ). crc_from c r) e ∙ sym (crc_is r)

-- ---- bytes that end in their checksum

module _ (s : List ℕ) (b : Bytes s) (i n : ℕ) (h : i + (n + 6) ≤ length s) where
  abbrev own : ℕ
  own = crc (take (n + 3) (drop i s))

  abbrev sent : ℕ
  sent = field s ((i + n + 3) * 8) 24

  sealed : crc (take (n + 6) (drop i s)) ≡ crc_bits 24 (bit_xor sent own)
  sealed =
      let e : n + 6 ≡ n + 3 + 3 = omega arith in
      let f : i + (n + 3) ≡ i + n + 3 = omega arith in
      ap (λ (k : ℕ). crc (take k (drop i s))) e
      ∙ ap crc (take-add (n + 3) 3 (drop i s))
      ∙ crc_append (take (n + 3) (drop i s)) (take 3 (drop (n + 3) (drop i s)))
      ∙ ap (λ (l : List ℕ). crc_from own (take 3 l)) (drop-drop (n + 3) i s ∙ ap (λ (k : ℕ). drop k s) f)
      ∙ feed_bytes s b 3 (i + n + 3) own (omega arith)
      ∙ feed_24 own s ((i + n + 3) * 8)

  pub sums_agree : crc (take (n + 6) (drop i s)) ≡ 0 → own ≡ sent
  sums_agree e =
      sym (xor_none sent own
      (bits_back 24 (bit_xor sent own) 0 (xor_lt 24 sent own (field_lt s ((i + n + 3) * 8) 24) (crc_below (take (n + 3) (drop i s)))) (omega arith)
      (sym sealed ∙ e ∙ sym (bits_zero 24))))

  pub sums_agree_back : own ≡ sent → crc (take (n + 6) (drop i s)) ≡ 0
  sums_agree_back e = sealed ∙ ap (λ (c : ℕ). crc_bits 24 (bit_xor sent c)) e ∙ ap (crc_bits 24) (xor_self sent) ∙ bits_zero 24
