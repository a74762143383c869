-- Two lists, one behind the other: bytes and parts of them as the code finds and copies them. Assumes nothing.
use mathlib.Core.Path.{◌≡◌, refl, sym, ap, ap₂, ◌∙◌}
use mathlib.Core.List.{List, [], ◌∷◌, ◌++◌, append-nil, append_assoc}
use Prim.Native.Nat.{ℕ, zero, suc, ◌+◌, ◌-◌, ◌≤◌, ◌<◌, min}
use native.Mathlib.Nat.{add-sub_of_le, sub-zero, zero-sub, suc-sub-suc, add_comm, not-suc-le-zero, le_of_suc-le-suc}
use native.Mathlib.Numerals.{add-one}
use native.Mathlib.Omega.{arith}
use native.Mathlib.Decide.{dec_lt}
use lib.ListN.{length, get_or, take, drop, set, length-append, length-drop, get_or-append, take-append-drop}
use lib.Seq.{get_or-append-add, get_or-drop, drop-append-le, drop-append-add, take-append-le, take-append-add, take_all, take-nil, take-take, length-take-le, drop-drop, paste, take-paste, drop-paste}
use Rattle.bits.specs.Onto.{onto, over}
use Rattle.bits.specs.Crc.{crc, crc_from}
use Rattle.bits.proofs.CrcLaws.{crc_append}
use Rattle.bits.proofs.OntoLaws.{over_zero, over_onto}

-- ---- bytes

module _ (h p : List ℕ) (i : ℕ) where
  pub at_left : i < length h → get_or h i 0 ≡ get_or (h ++ p) i 0
  at_left l = sym (get_or-append h p 0 i l)

  pub at_right : length h ≤ i → get_or p (i - length h) 0 ≡ get_or (h ++ p) i 0
  at_right l = sym (get_or-append-add h p (i - length h) 0) ∙ ap (λ n. get_or (h ++ p) n 0) (add-sub_of_le l)

pub length_from : (h p : List ℕ) (i : ℕ) → length (drop i (h ++ p)) ≡ length h + length p - i
length_from h p i = rw (length-drop, length-append)

-- ---- parts

drop_take : (f t : ℕ) (l : List ℕ) → drop f (take t l) ≡ take (t - f) (drop f l)
drop_take zero t l = rw sub-zero
drop_take (suc f) zero l = rw zero-sub
drop_take (suc f) (suc t) [] = sym (take-nil (suc t - suc f))
drop_take (suc f) (suc t) (x ∷ l) = rw suc-sub-suc (drop_take f t l)

drop_past : (n : ℕ) (l : List ℕ) → length l ≤ n → drop n l ≡ []
drop_past zero [] h = refl
drop_past zero (x ∷ l) h = absurd (not-suc-le-zero h)
drop_past (suc n) [] h = refl
drop_past (suc n) (x ∷ l) h = drop_past n l (le_of_suc-le-suc h)

module _ (h p : List ℕ) (i n : ℕ) where
  -- behind the seam
  pub part_right : length h ≤ i → take (i - length h + n - (i - length h)) (drop (i - length h) p) ≡ take n (drop i (h ++ p))
  part_right l =
      let e : i - length h + n - (i - length h) ≡ n = omega arith in
      let f : drop (i - length h) p ≡ drop i (h ++ p) = sym (drop-append-add h p (i - length h)) ∙ ap (λ k. drop k (h ++ p)) (add-sub_of_le l) in
      ap₂ take e f

  -- from before it on: m bytes of the first list, and then of the second
  module _ (m : ℕ) (l : i < length h) (e : m ≡ min (length h - i) n) where
    pub part_across : take (i + m - i) (drop i h) ++ take (n - m - 0) p ≡ take n (drop i (h ++ p))
    part_across =
        let x : i + m - i ≡ m = omega arith in
        let y : n - m - 0 ≡ n - m = omega arith in
        rw (x, y, drop-append-le i h p (omega arith)) (go (dec_lt n (length h - i)))
      where
        k : length (drop i h) ≡ length h - i
        k = length-drop i h

        go : Dec (n < length h - i) → take m (drop i h) ++ take (n - m) p ≡ take n (drop i h ++ p)
        go (yes q) =
            let u : m ≡ n = omega arith in
            let v : n - m ≡ 0 = omega arith in
            rw (v, u, append-nil) (sym (take-append-le n (drop i h) p (omega (arith, k))))
        go (no q) =
            let u : length (drop i h) + (n - m) ≡ n = omega (arith, k) in
            ap (λ r. r ++ take (n - m) p) (take_all m (drop i h) (omega (arith, k))) ∙ sym (take-append-add (drop i h) p (n - m)) ∙ ap (λ r. take r (drop i h ++ p)) u

    -- the checksum, from that of the first m bytes
    pub sum_across : (c : ℕ) → c ≡ crc (take (i + m - i) (drop i h)) → crc_from c (take (n - m - 0) p) ≡ crc (take n (drop i (h ++ p)))
    sum_across c q =
        ap (λ k. crc_from k (take (n - m - 0) p)) q
        ∙ sym (crc_append (take (i + m - i) (drop i h)) (take (n - m - 0) p))
        ∙ ap crc part_across

-- ---- copies

-- the first w bytes of p over those from place i on, and then all from its byte m on: all of p stands there
module _ (p d : List ℕ) (i w m : ℕ) (k : m ≤ w) (l : w ≤ length p) (r : i + length p ≤ length d) where
  abbrev once : List ℕ
  once = paste d i p w

  once_is : over i (take (w - 0) p) d ≡ once
  once_is = ap (λ n. over i (take n p) d) (sub-zero w) ∙ ap (λ n. take i d ++ take w p ++ drop (i + n) d) (length-take-le w p l)

  rest : take (length p - m) (drop m p) ≡ drop m p
  rest = take_all (length p - m) (drop m p) (rw length-drop (omega arith))

  before : take (i + m) once ≡ take i d ++ take m p
  before =
      let e : length (take i d) + m ≡ i + m = rw (length-take-le i d (omega arith)) refl in
      sym (take-take (i + m) (i + w) once (omega arith))
      ∙ ap (take (i + m)) (take-paste d i p w (omega arith) l)
      ∙ ap (λ n. take n (take i d ++ take w p)) (sym e)
      ∙ take-append-add (take i d) (take w p) m
      ∙ ap (λ x. take i d ++ x) (take-take m w p k)

  behind : drop (i + m + length (drop m p)) once ≡ drop (i + length p) d
  behind =
      let e : i + m + length (drop m p) ≡ i + w + (length p - w) = rw length-drop (omega arith) in
      let f : i + w + (length p - w) ≡ i + length p = omega arith in
      ap (λ n. drop n once) e
      ∙ sym (drop-drop (length p - w) (i + w) once)
      ∙ ap (drop (length p - w)) (drop-paste d i p w (omega arith) l)
      ∙ drop-drop (length p - w) (i + w) d
      ∙ ap (λ n. drop n d) f

  pub over_again : over (i + m) (take (length p - m) (drop m p)) (over i (take (w - 0) p) d) ≡ over i p d
  over_again =
      ap₂ (over (i + m)) rest once_is
      ∙ ap₂ (λ x y. x ++ drop m p ++ y) before behind
      ∙ ap (λ x. x ++ drop (i + length p) d) (append_assoc (take i d) (take m p) (drop m p) ∙ ap (λ x. take i d ++ x) (take-append-drop m p))

module _ (h p : List ℕ) (i n : ℕ) (d : List ℕ) where
  pub gather_right : length h ≤ i → over 0 (take (i - length h + n - (i - length h)) (drop (i - length h) p)) d ≡ onto (take n (drop i (h ++ p))) d
  gather_right l = ap (λ x. over 0 x d) (part_right h p i n l) ∙ over_zero (take n (drop i (h ++ p))) d

  pub gather_across : (m : ℕ) → i < length h → m ≡ min (length h - i) n
      → over m (take (n - m - 0) p) (over 0 (take (i + m - i) (drop i h)) d) ≡ onto (take n (drop i (h ++ p))) d
  gather_across m l e =
      let xs = take (i + m - i) (drop i h) in
      let ys = take (n - m - 0) p in
      let k : length xs ≡ m = length-take-le (i + m - i) (drop i h) (rw length-drop (omega arith)) ∙ omega arith in
      ap (over m ys) (over_zero xs d) ∙ over_onto xs ys d m k ∙ ap (λ x. onto x d) (part_across h p i n m l e)

pub none_taken : (n : ℕ) → length {A = ℕ} (take n []) ≡ 0
none_taken n = ap (λ (x : List ℕ). length x) (take-nil n)

-- a part of the first bytes of a, with no piece behind them
pub gather_alone : (a d : List ℕ) (count i n : ℕ) → i + n ≤ count → over 0 (take (i + n - i) (drop i a)) d ≡ onto (take n (drop i (take (count - 0) a ++ take (0 - 0) []))) d
gather_alone a d count i n l =
    let e : i + n - i ≡ n = omega arith in
    let f : take (i + n - i) (drop i a) ≡ take n (drop i (take (count - 0) a ++ take (0 - 0) [])) =
    ap (λ k. take k (drop i a)) e
    ∙ sym (take-take n (count - i) (drop i a) (omega arith))
    ∙ ap (take n) (sym (drop_take i count a))
    ∙ ap (λ z. take n (drop i z)) (sym (append-nil (take count a)))
    ∙ ap₂ (λ k z. take n (drop i (take k a ++ z))) (sym (sub-zero count)) (sym (take-nil (0 - 0))) in
    ap (λ x. over 0 x d) f ∙ over_zero (take n (drop i (take (count - 0) a ++ take (0 - 0) []))) d

module _ (a p : List ℕ) (count i : ℕ) (l : count ≤ length a) where
  pub slide_none : i ≡ 0 → over count p a ≡ onto (drop i (take count a ++ p)) a
  slide_none e = rw (e, length-append, length-take-le count a l)

  -- nothing is left
  pub slide_all : count + length p - i ≡ 0 → a ≡ onto (drop i (take count a ++ p)) a
  slide_all e =
      let f : drop i (take count a ++ p) ≡ [] = drop_past i (take count a ++ p) (rw (length-append, length-take-le count a l) (omega arith)) in
      ap (λ x. onto x a) (sym f)

  -- what is left moves to the front, with no piece behind it
  pub slide_alone : i ≤ count → take (count - i) (drop i a) ++ drop (count - i) a ≡ onto (drop i (take count a ++ [])) a
  slide_alone m =
      let xs = take (count - i) (drop i a) in
      let e : length xs ≡ count - i = length-take-le (count - i) (drop i a) (rw length-drop (omega arith)) in
      let f : xs ≡ drop i (take count a ++ []) = sym (drop_take i count a) ∙ ap (drop i) (sym (append-nil (take count a))) in
      ap (λ n. xs ++ drop n a) (sym e) ∙ ap (λ x. onto x a) f

  pub slide_right : count ≤ i → over 0 (take (length p - (i - count)) (drop (i - count) p)) a ≡ onto (drop i (take count a ++ p)) a
  slide_right m =
      let e : length (take count a) + (i - count) ≡ i = rw (length-take-le count a l) (omega arith) in
      let f : take (length p - (i - count)) (drop (i - count) p) ≡ drop i (take count a ++ p) =
      take_all (length p - (i - count)) (drop (i - count) p) (rw length-drop (omega arith))
      ∙ sym (drop-append-add (take count a) p (i - count)) ∙ ap (λ n. drop n (take count a ++ p)) e in
      ap (λ x. over 0 x a) f ∙ over_zero (drop i (take count a ++ p)) a

  pub slide_both : i < count → over (count - i) p (take (count - i) (drop i a) ++ drop (count - i) a) ≡ onto (drop i (take count a ++ p)) a
  slide_both m =
      let xs = take (count - i) (drop i a) in
      let e : length xs ≡ count - i = length-take-le (count - i) (drop i a) (rw length-drop (omega arith)) in
      let f : drop i (take count a ++ p) ≡ xs ++ p =
      drop-append-le i (take count a) p (rw (length-take-le count a l) (omega arith)) ∙ ap (λ x. x ++ p) (drop_take i count a) in
      ap (λ n. over (count - i) p (xs ++ drop n a)) (sym e) ∙ over_onto xs p a (count - i) e ∙ ap (λ x. onto x a) (sym f)

-- a store takes the copy of i bytes to the copy of one more
store : (s d : List ℕ) (i : ℕ) → i < length s → i < length d → set (take i s ++ drop i d) i (get_or s i 0) ≡ take (suc i) s ++ drop (suc i) d
store [] d i h k = absurd (not-suc-le-zero h)
store (x ∷ s) [] i h k = absurd (not-suc-le-zero k)
store (x ∷ s) (y ∷ d) zero h k = refl
store (x ∷ s) (y ∷ d) (suc i) h k = ap (λ l. x ∷ l) (store s d i (le_of_suc-le-suc h) (le_of_suc-le-suc k))

-- a turn of `shift`: a byte that was not stored to yet is the area's own
pub shift_turn : (d : List ℕ) (i k : ℕ) → i + k < length d
    → set (take k (drop i d) ++ drop k d) k (get_or (take k (drop i d) ++ drop k d) (i + k) 0) ≡ take (k + 1) (drop i d) ++ drop (k + 1) d
shift_turn d i k l =
    let xs = take k (drop i d) in
    let e : length xs ≡ k = length-take-le k (drop i d) (rw length-drop (omega arith)) in
    let f : get_or (xs ++ drop k d) (i + k) 0 ≡ get_or (drop i d) k 0 =
    ap (λ n. get_or (xs ++ drop k d) n 0) (add_comm i k ∙ ap (λ n. n + i) (sym e)) ∙ get_or-append-add xs (drop k d) i 0
    ∙ get_or-drop k d i 0 ∙ ap (λ n. get_or d n 0) (add_comm k i) ∙ sym (get_or-drop i d k 0) in
    rw (f, add-one) (store (drop i d) d k (rw length-drop (omega arith)) (omega arith))
