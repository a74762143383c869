-- The words of the loop: at its start, at each turn and at its end. Assumes nothing.
use mathlib.Core.Path.{◌≡◌, sym, ap, ap₂, ◌∙◌}
use mathlib.Core.List.{List}
use Prim.Native.Nat.{ℕ, ◌+◌, ◌*◌, ◌-◌, ◌/◌, ◌%◌, ◌^◌, ◌≤◌, ◌<◌}
use lib.Pow.{high as pow-high}
use native.Mathlib.Nat.{zero-add, zero-mul}
use native.Mathlib.Omega.{arith}
use lib.ListN.{length, get_or, take, drop, take-append-drop}
use lib.Bits.{bit_xor, xor_comm, xor_zero_l}
use Rattle.bits.specs.Field.{field}
use Rattle.bits.specs.Crc.{crc_bits, crc_from}
use Rattle.bits.specs.FoldSteps.{rem, near, far, nearer, farther, next, three}
use Rattle.bits.proofs.XorLaws.{xor_assoc, xor_swap}
use Rattle.bits.proofs.CrcLaws.{bits_zero, bits_linear, from_append, from_end}
use Rattle.bits.proofs.RemLaws.{rem_linear, rem_split, bits_add, rem_zero}
use Rattle.bits.proofs.FieldLaws.{field_split, field_lt}
use Rattle.bits.proofs.FoldLaws.{fold_three, fold_two, fold_one, top}
use Rattle.bits.proofs.WordLaws.{run}

-- ---- the start

-- the sum so far goes into the top of the first word
pub begun : (s : List ℕ) (i c w : ℕ) → i + 8 ≤ length s → ((k : ℕ) → get_or s k 0 < 256) → c < 2 ^ 32
    → w ≡ bit_xor (c * 2 ^ 40 % 2 ^ 64) (field s (i * 8) 64)
    → crc_from (rem 64 w) (drop (i + 8) s) ≡ crc_from c (drop i s)
begun s i c w h b hc e =
    let f = field s (i * 8) 64 in
    sym
    (run 8 s i c h b
    ∙ ap (λ (z : ℕ). crc_from z (drop (i + 8) s))
    (ap (λ (z : ℕ). bit_xor z (rem 64 f)) (top c hc) ∙ sym (rem_linear 64 (c * 2 ^ 40 % 2 ^ 64) f) ∙ ap (rem 64) (sym e)))

-- the first n bytes as one number: a word with zeros in front
pub first_word : (s : List ℕ) (n w : ℕ) → n ≤ length s → n ≤ 8 → ((k : ℕ) → get_or s k 0 < 256) → w ≡ field s 0 64 / 2 ^ (64 - n * 8)
    → crc_from (rem 64 w) (drop n s) ≡ crc_from 0 s
first_word s n w h l b e =
    let m = n * 8 in
    let f = field s 0 m in
    let cut : 64 ≡ m + (64 - m) = omega arith in
    let whole : 64 ≡ 64 - m + m = omega arith in
    let front : w ≡ f =
    e ∙ ap (λ (x : ℕ). x / 2 ^ (64 - m)) (ap (field s 0) cut ∙ field_split s 0 m (64 - m)) ∙ pow-high f (64 - m) (field_lt s (0 + m) (64 - m)) in
    let bare : f ≡ 0 * 2 ^ m + f = sym (ap (λ (x : ℕ). x + f) (zero-mul (2 ^ m)) ∙ zero-add f) in
    let same : rem 64 w ≡ rem m f =
    ap₂ rem whole (front ∙ bare)
    ∙ rem_split (64 - m) m 0 f (field_lt s 0 m)
    ∙ ap (λ (x : ℕ). bit_xor x (rem m f)) (ap (crc_bits m) (rem_zero (64 - m)) ∙ bits_zero m)
    ∙ xor_zero_l (rem m f) in
    ap (λ (x : ℕ). crc_from x (drop n s)) (same ∙ sym (ap (λ (x : ℕ). bit_xor x (rem m f)) (bits_zero m) ∙ xor_zero_l (rem m f)))
    ∙ ap (λ (k : ℕ). crc_from (bit_xor (crc_bits m 0) (rem m f)) (drop k s)) (sym (zero-add n))
    ∙ sym (run n s 0 0 (omega (arith, h)) b)

-- the front of the bytes a byte at a time, and then the words
pub front_first : (s : List ℕ) (c : ℕ) → crc_from (crc_from c (take (length s % 8 - 0) s)) (drop (length s % 8) s) ≡ crc_from c s
front_first s c =
    let r = length s % 8 in
    let e : r - 0 ≡ r = omega arith in
    ap (λ (n : ℕ). crc_from (crc_from c (take n s)) (drop r s)) e
    ∙ sym (from_append (take r s) (drop r s) c)
    ∙ ap (crc_from c) (take-append-drop r s)

-- fewer than eight bytes are all front
pub all_front : (s : List ℕ) (c : ℕ) → length s < 8 → crc_from c (take (length s % 8 - 0) s) ≡ crc_from c s
all_front s c h =
    let r = length s % 8 in
    sym (from_end s r (crc_from c (take (r - 0) s)) (omega arith)) ∙ front_first s c

-- one word alone
pub alone : (w : ℕ) → three 0 0 w ≡ rem 64 w
unfolding three
alone w =
    ap₂ (λ (x y : ℕ). bit_xor x (bit_xor y (rem 64 w))) (ap (crc_bits 128) (rem_zero 64) ∙ bits_zero 128) (ap (crc_bits 64) (rem_zero 64) ∙ bits_zero 64)
    ∙ xor_zero_l (bit_xor 0 (rem 64 w))
    ∙ xor_zero_l (rem 64 w)

-- ---- a turn

mix : (v w x n f : ℕ) → bit_xor (bit_xor (bit_xor n f) (bit_xor v w)) x ≡ bit_xor v (bit_xor (bit_xor w n) (bit_xor x f))
mix v w x n f =
    let k = bit_xor n f in
    ap (λ (z : ℕ). bit_xor z x) (xor_comm k (bit_xor v w))
    ∙ xor_assoc (bit_xor v w) k x
    ∙ xor_assoc v w (bit_xor k x)
    ∙ ap (λ (z : ℕ). bit_xor v (bit_xor w z)) (xor_comm k x)
    ∙ ap (bit_xor v) (sym (xor_assoc w x k) ∙ xor_swap w x n f)

three_step : (u v w x : ℕ) → u < 2 ^ 64 → bit_xor (crc_bits 64 (three u v w)) (rem 64 x) ≡ three v (bit_xor w (near u)) (bit_xor x (far u))
unfolding three
three_step u v w x h =
    let ru = rem 64 u in
    let rv = rem 64 v in
    let rw64 = rem 64 w in
    let rx = rem 64 x in
    let rn = rem 64 (near u) in
    let rf = rem 64 (far u) in
    ap (λ (z : ℕ). bit_xor z rx)
    (bits_linear 64 (crc_bits 128 ru) (bit_xor (crc_bits 64 rv) rw64)
    ∙ ap₂ bit_xor (sym (bits_add 64 128 ru) ∙ fold_three u h) (bits_linear 64 (crc_bits 64 rv) rw64 ∙ ap (λ (z : ℕ). bit_xor z (crc_bits 64 rw64)) (sym (bits_add 64 64 rv))))
    ∙ mix (crc_bits 128 rv) (crc_bits 64 rw64) rx (crc_bits 64 rn) rf
    ∙ sym
    (ap₂ (λ (y z : ℕ). bit_xor (crc_bits 128 rv) (bit_xor y z)) (ap (crc_bits 64) (rem_linear 64 w (near u)) ∙ bits_linear 64 rw64 rn) (rem_linear 64 x (far u)))

-- the word at byte i comes in, and the first of the three is folded away
pub turned : (s : List ℕ) (i u v w : ℕ) → i + 8 ≤ length s → ((k : ℕ) → get_or s k 0 < 256) → u < 2 ^ 64
    → crc_from (three u v w) (drop i s) ≡ crc_from (three v (bit_xor w (near u)) (bit_xor (field s (i * 8) 64) (far u))) (drop (i + 8) s)
turned s i u v w h b hu =
    run 8 s i (three u v w) h b
    ∙ ap (λ (z : ℕ). crc_from z (drop (i + 8) s)) (three_step u v w (field s (i * 8) 64) hu)

-- ---- the end

sort : (c f b n : ℕ) → bit_xor (bit_xor c f) (bit_xor b n) ≡ bit_xor (bit_xor n f) (bit_xor b c)
sort c f b n =
    ap₂ bit_xor (xor_comm c f) (xor_comm b n)
    ∙ xor_swap f c n b
    ∙ ap₂ bit_xor (xor_comm f n) (xor_comm c b)

-- three words are folded into the last
pub ended : (a b c : ℕ) → a < 2 ^ 64 → bit_xor b (nearer a) < 2 ^ 64
    → rem 64 (bit_xor (bit_xor c (farther a)) (next (bit_xor b (nearer a)))) ≡ three a b c
unfolding three
ended a b c ha hb =
    let rb = rem 64 b in
    let rc = rem 64 c in
    let rn = rem 64 (nearer a) in
    let rf = rem 64 (farther a) in
    rem_linear 64 (bit_xor c (farther a)) (next (bit_xor b (nearer a)))
    ∙ ap₂ bit_xor (rem_linear 64 c (farther a))
    (sym (fold_one (bit_xor b (nearer a)) hb) ∙ ap (crc_bits 64) (rem_linear 64 b (nearer a)) ∙ bits_linear 64 rb rn)
    ∙ sort rc rf (crc_bits 64 rb) (crc_bits 64 rn)
    ∙ ap (λ (z : ℕ). bit_xor z (bit_xor (crc_bits 64 rb) rc)) (sym (fold_two a ha))
