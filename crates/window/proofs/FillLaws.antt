-- The area that is filled from the last tail to the first. Assumes nothing.
use mathlib.Core.Path.{◌≡◌, refl, sym, ap, ap₂, ◌∙◌, subst}
use mathlib.Core.List.{List, [], ◌∷◌, ◌++◌}
use Prim.Native.Nat.{ℕ, suc, ◌+◌, ◌-◌, ◌*◌, ◌%◌, ◌^◌, ◌≤◌, ◌<◌}
use native.Mathlib.Omega.{arith}
use lib.ListN.{length, get_or, set, take, drop, length-set}
use lib.Seq.{drop-length, set_split, take-set-le, drop-set-lt, append_snoc}
use lib.Bits.{bit_xor}
use borrow.Author.Tests.{lt-ltb, le-ltb}
use Rattle.bits.specs.Onto.{onto, over}
use Rattle.bits.specs.Crc.{crc_bits, crc}
use Rattle.bits.proofs.CrcLaws.{bits_none, crc_is, from_nil}
use Rattle.bits.proofs.RemLaws.{bits_add}
use Rattle.bits.proofs.OntoLaws.{over_zero}
use Rattle.damage.proofs.BackLaws.{bits_below}
use Rattle.window.specs.Tails.{tails, stored}
use Rattle.window.specs.Steps.{times, low}
use Rattle.window.proofs.MoveLaws.{moved_0, moved_8}
use Rattle.window.proofs.TailLaws.{one_more, tails_more, written, length_tails}

-- the tails of s from place k on stand in the area d; the weight of byte k - 1, and a sum that reduces to the tail at k
pub record Filling (s d out : List ℕ) (k w sum : ℕ) : Type 0 where
  pub place : k ≤ length s
  pub area : out ≡ over k (tails (drop k s)) d
  pub as_long : length out ≡ length d
  pub weight : w ≡ crc_bits ((length s - k) * 8) 0x864CFB
  pub small : w < 2 ^ 24
  pub reduces : low sum ≡ crc (drop k s)

nothing : crc [] ≡ 0
nothing = crc_is [] ∙ from_nil 0

module _ (s d : List ℕ) (room : length s < length d) where
  -- what is written within stays as it is written
  unmoved : (xs : List ℕ) (k n v : ℕ) → k ≤ n → n < k + length xs → over k xs (set d n v) ≡ over k xs d
  unmoved xs k n v a b = ap₂ (λ (p q : List ℕ). p ++ xs ++ q) (take-set-le k d n v a) (drop-set-lt (k + length xs) d n v b)

  last_tail : tails (drop (length s) s) ≡ 0 ∷ []
  unfolding tails
  last_tail = ap tails (drop-length s) ∙ ap (λ (n : ℕ). n ∷ []) nothing

  pub filling_first : Filling s (set d (length s) 0) (set d (length s) 0) (length s) 0x864CFB 0
  filling_first =
      let n = length s in
      let z : (n - n) * 8 ≡ 0 = omega arith in
      let j : suc n ≡ n + 1 = omega arith in
      record {
        place = omega arith;
        area =
            set_split d n 0 room ∙ sym (append_snoc (take n d) 0 (drop (suc n) d))
            ∙ ap (λ (k : ℕ). take n d ++ (0 ∷ []) ++ drop k d) j
            ∙ sym (ap (λ (l : List ℕ). over n l (set d n 0)) last_tail ∙ unmoved (0 ∷ []) n n 0 (omega arith) (omega arith));
        as_long = refl;
        weight = sym (ap (λ (k : ℕ). crc_bits k 0x864CFB) z ∙ bits_none 0x864CFB);
        small = omega arith;
        reduces = moved_0 0 (omega arith) ∙ bits_none 0 ∙ sym (ap crc (drop-length s) ∙ nothing);
      }

  -- the first tail is the whole list's
  pub filling_end : (out : List ℕ) (w sum : ℕ) → Filling s (set d (length s) 0) out 0 w sum → out ≡ onto (tails s) d
  filling_end out w sum f =
      f.area ∙ unmoved (tails s) 0 (length s) 0 (omega arith) (omega (arith, length_tails s)) ∙ over_zero (tails s) d

module _ (s d : List ℕ) (room : length s < length d) (bytes : (i : ℕ) → get_or s i 0 < 256) where
  more : (out : List ℕ) (j w sum w₁ x v : ℕ) → Filling s d out (suc j) w sum → x ≡ times (get_or s j 0) w → v ≡ low (bit_xor sum x) → w₁ ≡ low (w * 2 ^ 8 % 2 ^ 32)
      → Filling s d (set out j v) j w₁ (bit_xor sum x)
  more out j w sum w₁ x v f ex ev el =
      let l : j < length s = omega (arith, f.place) in
      let ew : w₁ ≡ crc_bits 8 w = el ∙ moved_8 w f.small in
      let e : low (bit_xor sum x) ≡ crc (drop j s) =
      ap (λ (y : ℕ). low (bit_xor sum y)) ex ∙ one_more s j w sum l (bytes j) f.small f.weight f.reduces in
      let m : (length s - j) * 8 ≡ 8 + (length s - suc j) * 8 = omega arith in
      record {
        place = omega arith;
        area =
            ap (λ (a : List ℕ). set a j v) f.area ∙ written (tails (drop (suc j) s)) d j v (omega arith)
            ∙ ap (λ (a : List ℕ). over j a d) (ap (λ (n : ℕ). n ∷ tails (drop (suc j) s)) (ev ∙ e) ∙ sym (tails_more s j l));
        as_long = length-set out j v ∙ f.as_long;
        weight =
            ew ∙ ap (crc_bits 8) f.weight ∙ sym (bits_add 8 ((length s - suc j) * 8) 0x864CFB) ∙ ap (λ (k : ℕ). crc_bits k 0x864CFB) (sym m);
        small = subst (λ (n : ℕ). n < 2 ^ 24) (sym ew) (bits_below 8 w f.small);
        reduces = e;
      }

  pub filling_more : (out : List ℕ) (k w sum w₁ x v : ℕ) → 0 < k → Filling s d out k w sum → x ≡ times (get_or s (k - 1) 0) w → v ≡ low (bit_xor sum x) → w₁ ≡ low (w * 2 ^ 8 % 2 ^ 32)
      → Filling s d (set out (k - 1) v) (k - 1) w₁ (bit_xor sum x)
  filling_more out k w sum w₁ x v p f ex ev ew =
      let e : k ≡ suc (k - 1) = omega arith in
      more out (k - 1) w sum w₁ x v (subst (λ (n : ℕ). Filling s d out n w sum) e f) ex ev ew

-- ---- the call

pub no_room : (s d : List ℕ) → length d ≤ length s → d ≡ stored s d
unfolding stored
no_room s d h = rw (le-ltb (length s) (length d) h)

pub with_room : (s d : List ℕ) → length s < length d → onto (tails s) d ≡ stored s d
unfolding stored
with_room s d h = rw (lt-ltb (length s) (length d) h)
