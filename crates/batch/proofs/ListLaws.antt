-- Parts written over an area, one behind the other. Assumes nothing.
use mathlib.Core.Path.{◌≡◌, sym, ap, ◌∙◌}
use mathlib.Core.List.{List, ◌++◌, append_assoc}
use Prim.Native.Nat.{ℕ, ◌+◌, ◌-◌, ◌≤◌, ◌<◌, min}
use native.Mathlib.Omega.{arith}
use lib.ListN.{length, take, drop, length-append, length-drop}
use lib.Seq.{length-take-le}
use borrow.Author.Tests.{lt-ltb, le-ltb}
use mathlib.Core.Bool.{cond}
use lib.Dec.{ltb}
use Rattle.bits.specs.Onto.{onto, over}
use Rattle.bits.proofs.OntoLaws.{over_onto}
use Rattle.frames.proofs.SeamLaws.{part_across}

over_is : (i : ℕ) (xs d : List ℕ) → i ≤ length d → over i xs d ≡ onto (take i d ++ xs) d
over_is i xs d l =
    let e : i + length xs ≡ length (take i d ++ xs) = sym (length-append (take i d) xs ∙ ap (λ n. n + length xs) (length-take-le i d l)) in
    ap (λ n. take i d ++ xs ++ drop n d) e

pub over_over : (i m : ℕ) (xs ys d : List ℕ) → i ≤ length d → length xs ≡ m → over (i + m) ys (over i xs d) ≡ over i (xs ++ ys) d
over_over i m xs ys d l e =
    let n : length (take i d ++ xs) ≡ i + m = length-append (take i d) xs ∙ ap (λ n. n + length xs) (length-take-le i d l) ∙ ap (λ n. i + n) e in
    ap (over (i + m) ys) (over_is i xs d l) ∙ over_onto (take i d ++ xs) ys d (i + m) n ∙ ap (λ t. onto t d) (append_assoc (take i d) xs ys) ∙ sym (over_is i (xs ++ ys) d l)

module _ (h p s : List ℕ) (i n : ℕ) where
  -- bytes that start before the seam of two lists
  pub early : (m : ℕ) → i < length h → i ≤ length s → m ≡ min (length h - i) n
      → over (i + m) (take (n - m - 0) p) (over i (take (i + m - i) (drop i h)) s) ≡ cond (ltb i (length h)) (over i (take n (drop i (h ++ p))) s) s
  early m l k e =
      let u : length (take (i + m - i) (drop i h)) ≡ m = length-take-le (i + m - i) (drop i h) (rw length-drop (omega arith)) ∙ omega arith in
      over_over i m (take (i + m - i) (drop i h)) (take (n - m - 0) p) s k u
      ∙ ap (λ t. over i t s) (part_across h p i n m l e)
      ∙ rw (lt-ltb i (length h) l)

  -- and others
  pub late : length h ≤ i → s ≡ cond (ltb i (length h)) (over i (take n (drop i (h ++ p))) s) s
  late l = rw (le-ltb i (length h) l)
