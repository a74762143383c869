-- The mask of an edition of the 1059 signals tells its numbers. Assumes nothing.
use mathlib.Core.Path.{◌≡◌, refl, ◌∙◌, sym}
use mathlib.Core.Bool.{Bool, true, false, ◌&&◌, beq, true≢false}
use mathlib.Core.List.{List, [], ◌∷◌}
use Prim.Native.Nat.{ℕ, ◌^◌, ◌≤◌, ◌<◌}
use native.Mathlib.Decide.{dec_lt}
use native.Mathlib.Omega.{arith}
use borrow.Author.Tests.{ltb-true, ltb-false, le-ltb, ne_eqb}
use lib.Dec.{T, ltb, ltb→lt}
use Rattle.messages.specs.Signals.{Entry, entry, is_at, signal_of}
use Rattle.messages.specs.Signals1059.{edition1, edition2, editions, signals1059, is_signal1059}
use Rattle.messages.specs.StepsTable.{mask_of, in_mask}
use Rattle.messages.proofs.TestLaws.{left, right, all, all_place, below, below_place}

-- a table's numbers are below 32
abbrev narrow : Entry → Bool
narrow (entry n b l) = ltb n 32

-- the mask tells each number below 32
abbrev tells : List Entry → ℕ → Bool
tells t n = beq (in_mask (mask_of t) n) (is_at (signal_of t n))

abbrev good : List Entry → Bool
good t = all narrow t && below (tells t) 32

-- the test over all editions
good_editions : T (all good editions)
unfolding edition1 edition2 mask_of in_mask signal_of
good_editions = tt

good_edition : (edition : ℕ) → T (good (signals1059 edition))
unfolding signals1059 mask_of in_mask signal_of
good_edition edition = all_place good editions [] good_editions tt edition

wide_none : (t : List Entry) → T (all narrow t) → (n : ℕ) → 32 ≤ n → is_at (signal_of t n) ≡ false
unfolding signal_of
wide_none [] h n g = refl
wide_none (entry m b l ∷ t) h n g = rw (ne_eqb m n (λ e. omega (arith, ltb→lt m 32 (left (ltb m 32) (all narrow t) h)))) (wide_none t (right (ltb m 32) (all narrow t) h) n g)

same : (a b : Bool) → T (beq a b) → a ≡ b
same true true t = refl
same true false t = absurd t
same false true t = absurd t
same false false t = refl

wide_out : (m n : ℕ) → 32 ≤ n → in_mask m n ≡ false
unfolding in_mask
wide_out m n h = rw (le-ltb n 32 h)

tells_by : (t : List Entry) → T (good t) → (n : ℕ) (q : Bool) → ltb n 32 ≡ q → in_mask (mask_of t) n ≡ is_at (signal_of t n)
tells_by t h n true e = same _ _ (below_place (tells t) 32 (right (all narrow t) (below (tells t) 32) h) n (ltb-true n 32 e))
tells_by t h n false e =
    wide_out (mask_of t) n (ltb-false n 32 e) ∙ sym (wide_none t (left (all narrow t) (below (tells t) 32) h) n (ltb-false n 32 e))

-- a number is in the mask of an edition exactly if it is a signal of the edition
pub mask_tells : (edition n : ℕ) → in_mask (mask_of (signals1059 edition)) n ≡ is_signal1059 edition n
unfolding is_signal1059
mask_tells edition n = tells_by (signals1059 edition) (good_edition edition) n (ltb n 32) refl

-- so a signal of any edition has five bits
pub signal_fits : (edition n : ℕ) → is_signal1059 edition n ≡ true → n < 2 ^ 5
signal_fits edition n h = go (dec_lt n 32)
  where
    go : Dec (n < 32) → n < 32
    go (yes l) = l
    go (no l) = absurd (true≢false (sym (mask_tells edition n ∙ h) ∙ wide_out (mask_of (signals1059 edition)) n (omega arith)))
