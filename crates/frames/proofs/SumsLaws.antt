-- The two sums of UBX, byte by byte and part by part. Assumes nothing.
use mathlib.Core.Path.{◌≡◌, refl, sym, ap, ◌∙◌}
use mathlib.Core.List.{List, [], ◌∷◌, ◌++◌}
use Prim.Native.Nat.{ℕ, ◌+◌, ◌-◌, ◌≤◌, ◌<◌, min}
use native.Mathlib.Numerals.{add-one}
use lib.ListN.{length, get_or, take, drop, drop_of_length-le}
use lib.Seq.{drop-cons}
use Rattle.frames.specs.Ubx.{add_byte, sums_from, sums}
use Rattle.frames.proofs.SeamLaws.{part_across}

pub sums_append : (s t : List ℕ) (c : ℕ × ℕ) → sums_from c (s ++ t) ≡ sums_from (sums_from c s) t
unfolding sums_from
sums_append [] t c = refl
sums_append (x ∷ s) t c = sums_append s t (add_byte c x)

-- one byte more, from a place of the list on
pub sums_more : (s : List ℕ) (i : ℕ) (c : ℕ × ℕ) → i < length s → sums_from (add_byte c (get_or s i 0)) (drop (i + 1) s) ≡ sums_from c (drop i s)
unfolding sums_from
sums_more s i c h = rw (add-one, drop-cons s i 0)

pub sums_end : (s : List ℕ) (i : ℕ) (c : ℕ × ℕ) → length s ≤ i → sums_from c (drop i s) ≡ c
unfolding sums_from
sums_end s i c h = rw (drop_of_length-le s h)

-- of n bytes from place i on, m of them in the first list
pub sums_across : (h p : List ℕ) (i n m : ℕ) → i < length h → m ≡ min (length h - i) n → (c : ℕ × ℕ) → c ≡ sums (take (i + m - i) (drop i h))
    → sums_from c (take (n - m - 0) p) ≡ sums (take n (drop i (h ++ p)))
sums_across h p i n m l e c q =
    ap (λ k. sums_from k (take (n - m - 0) p)) q ∙ sym (sums_append (take (i + m - i) (drop i h)) (take (n - m - 0) p) (0, 0)) ∙ ap sums (part_across h p i n m l e)
