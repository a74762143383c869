-- Products that are taken first, and then added up from the last to the first. Assumes nothing.
use mathlib.Core.Path.{◌≡◌, refl, sym, ap, ◌∙◌, subst}
use mathlib.Core.List.{List, ◌++◌, append_assoc}
use Prim.Native.Nat.{ℕ, suc, ◌+◌, ◌-◌, ◌*◌, ◌^◌, ◌≤◌, ◌<◌}
use native.Mathlib.Nat.{not-suc-le-zero}
use native.Mathlib.Omega.{arith}
use native.Mathlib.Decide.{dec_lt}
use lib.ListN.{length, get_or, set, take, drop, length-set}
use lib.Seq.{get_or-set_same, get_or-set_other, drop-set-lt, drop-drop, get_or-take, take_at, length-take-le}
use lib.Bits.{bit_xor}
use Rattle.bits.specs.Onto.{onto, over}
use Rattle.bits.specs.Crc.{crc_bits}
use Rattle.bits.proofs.RemLaws.{bits_add}
use Rattle.damage.proofs.BackLaws.{bits_below}
use Rattle.window.specs.Tails.{tails}
use Rattle.window.specs.Steps.{times, low, Weights, Multiplied, Products}
use Rattle.window.proofs.MoveLaws.{moved_8}
use Rattle.window.proofs.TailLaws.{length_tails}
use Rattle.window.proofs.FillLaws.{Filling, filling_first, filling_more, filling_end}

-- the weight of a byte with n bytes behind it
abbrev pub weight_at : ℕ → ℕ
weight_at n = crc_bits (n * 8) 0x864CFB

pub weight_small : (n : ℕ) → weight_at n < 2 ^ 24
weight_small n = bits_below (n * 8) 0x864CFB (omega arith)

-- ---- products

-- the weight of byte k of n, in the table of the last 4,096
pub weight_of : (w : List ℕ) → Weights w → (n k : ℕ) → n ≤ 4096 → k < n → get_or w (4096 - n + k) 0 ≡ weight_at (n - suc k)
weight_of w r n k h l =
    let e : 4095 - (4096 - n + k) ≡ n - suc k = omega arith in
    r.rule (4096 - n + k) (omega arith) ∙ ap weight_at e

-- the products of the first k bytes stand in d, which was d₀ and stays so behind the bytes
pub record Taking (s d out : List ℕ) (k : ℕ) : Type 0 where
  pub place : k ≤ length s
  pub as_long : length out ≡ length d
  pub taken : (j : ℕ) → j < k → get_or out j 0 ≡ times (get_or s j 0) (weight_at (length s - suc j))
  pub behind : drop (length s) out ≡ drop (length s) d

module _ (s d : List ℕ) (room : length s < length d) where
  pub taking_first : Taking s d d 0
  taking_first = record { place = omega arith; as_long = refl; taken = λ j h. absurd (not-suc-le-zero h); behind = refl }

  pub taking_more : (out : List ℕ) (k v : ℕ) → k < length s → Taking s d out k → v ≡ times (get_or s k 0) (weight_at (length s - suc k)) → Taking s d (set out k v) (k + 1)
  taking_more out k v h t e =
      record {
        place = omega arith;
        as_long = length-set out k v ∙ t.as_long;
        taken = λ j l. go j l (dec_lt j k);
        behind = drop-set-lt (length s) out k v h ∙ t.behind;
      }
    where
      go : (j : ℕ) → j < k + 1 → Dec (j < k) → get_or (set out k v) j 0 ≡ times (get_or s j 0) (weight_at (length s - suc j))
      go j l (yes q) = get_or-set_other out k j v 0 (λ (z : j ≡ k). omega (arith, q, z)) ∙ t.taken j q
      go j l (no q) =
          let z : j ≡ k = omega (arith, l, q) in
          ap (λ (n : ℕ). get_or (set out k v) n 0) z
          ∙ get_or-set_same out k v 0 (omega (arith, t.as_long, room, h))
          ∙ e
          ∙ ap (λ (n : ℕ). times (get_or s n 0) (weight_at (length s - suc n))) (sym z)

  pub taking_end : (out : List ℕ) (k : ℕ) → length s ≤ k → Taking s d out k → Products s d out
  taking_end out k h t =
      record { all = record { product = λ j l. t.taken j (omega (arith, l, h)) }; as_long = t.as_long; behind = t.behind }

-- ---- sums

-- what stands before a place is not yet written
before : (xs d : List ℕ) (k j : ℕ) → j < k → k ≤ length d → get_or (over k xs d) j 0 ≡ get_or d j 0
before xs d k j h l =
    let r = drop (k + length xs) d in
    sym (get_or-take k (over k xs d) j 0 h)
    ∙ ap (λ (a : List ℕ). get_or a j 0) (ap (take k) (append_assoc (take k d) xs r) ∙ take_at (take k d) (xs ++ r) k (length-take-le k d l))
    ∙ get_or-take k d j 0 h

module _ (s d : List ℕ) (room : length s < length d) (m : Multiplied s d) where
  abbrev area : List ℕ
  area = set d (length s) 0

  area_room : length s < length area
  area_room = omega (arith, length-set d (length s) 0)

  -- the tails from place k on stand in the area, and the sum reduces to the tail at k
  abbrev pub Adding : List ℕ → ℕ → ℕ → Type 0
  Adding out k sum = Filling s (set d (length s) 0) out k (weight_at (length s - k)) sum

  pub adding_first : Adding (set d (length s) 0) (length s) 0
  adding_first = let f = filling_first s d room in subst (λ (w : ℕ). Filling s area area (length s) w 0) f.weight f

  stands : (out : List ℕ) (k sum : ℕ) → 0 < k → Adding out k sum → get_or out (k - 1) 0 ≡ times (get_or s (k - 1) 0) (weight_at (length s - k))
  stands out k sum h f =
      let e : suc (k - 1) ≡ k = omega arith in
      ap (λ (a : List ℕ). get_or a (k - 1) 0) f.area
      ∙ before (tails (drop k s)) area k (k - 1) (omega arith) (omega (arith, f.place, area_room))
      ∙ get_or-set_other d (length s) (k - 1) 0 0 (λ (z : k - 1 ≡ length s). omega (arith, z, h, f.place))
      ∙ m.product (k - 1) (omega (arith, f.place))
      ∙ ap (λ (n : ℕ). times (get_or s (k - 1) 0) (weight_at (length s - n))) e

  pub adding_more : ((i : ℕ) → get_or s i 0 < 256) → (out : List ℕ) (k sum v : ℕ) → 0 < k → Adding out k sum → v ≡ low (bit_xor sum (get_or out (k - 1) 0))
      → Adding (set out (k - 1) v) (k - 1) (bit_xor sum (get_or out (k - 1) 0))
  adding_more b out k sum v h f e =
      let n = length s - k in
      let z : (length s - (k - 1)) * 8 ≡ 8 + n * 8 = omega (arith, h, f.place) in
      filling_more s area area_room b out k (weight_at n) sum (weight_at (length s - (k - 1))) (get_or out (k - 1) 0) v h f (stands out k sum h f) e
      (ap (λ (i : ℕ). crc_bits i 0x864CFB) z ∙ bits_add 8 (n * 8) 0x864CFB ∙ sym (moved_8 (weight_at n) (weight_small n)))

  pub adding_end : (out : List ℕ) (k sum : ℕ) → k ≡ 0 → Adding out k sum → out ≡ onto (tails s) d
  adding_end out k sum e f = filling_end s d room out (weight_at (length s - 0)) sum (subst (λ (i : ℕ). Adding out i sum) e f)

-- what stands behind the products is what stood there before them
pub onto_same : (s d₀ d : List ℕ) → Products s d₀ d → onto (tails s) d ≡ onto (tails s) d₀
onto_same s d₀ d p =
    let n = length s in
    let e : length (tails s) ≡ n + 1 = length_tails s ∙ omega arith in
    ap (λ (k : ℕ). tails s ++ drop k d) e
    ∙ ap (λ (l : List ℕ). tails s ++ l) (sym (drop-drop 1 n d) ∙ ap (drop 1) p.behind ∙ drop-drop 1 n d₀)
    ∙ sym (ap (λ (k : ℕ). tails s ++ drop k d₀) e)
