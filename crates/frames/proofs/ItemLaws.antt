-- What is read off joined items, and the bytes of items counted. Assumes nothing.
use mathlib.Core.Path.{◌≡◌, refl, sym, ap, ◌∙◌}
use mathlib.Core.List.{List, [], ◌∷◌, ◌++◌, append_assoc}
use Prim.Native.Nat.{ℕ, suc, ◌+◌}
use native.Mathlib.Nat.{zero-add, add-zero, suc-add}
use native.Mathlib.Omega.{arith}
use lib.ListN.{length, length-append}
use Rattle.frames.specs.Scan.{Item, Skipped, Framed, item_bytes, bytes_of, frames_of, Handed, handed, skipped_of, framed}

module _ {W K : Type 0} where
  pub bytes_append : (is js : List (Item W K)) → bytes_of (is ++ js) ≡ bytes_of is ++ bytes_of js
  bytes_append [] js = refl
  bytes_append (i ∷ is) js = ap (λ l. item_bytes i ++ l) (bytes_append is js) ∙ sym (append_assoc (item_bytes i) (bytes_of is) (bytes_of js))

  pub frames_append : (is js : List (Item W K)) → frames_of (is ++ js) ≡ frames_of is ++ frames_of js
  frames_append [] js = refl
  frames_append (Skipped w x ∷ is) js = frames_append is js
  frames_append (Framed k f ∷ is) js = ap (λ l. f ∷ l) (frames_append is js)

  pub skipped_append : (is js : List (Item W K)) → skipped_of (is ++ js) ≡ skipped_of is + skipped_of js
  skipped_append [] js = sym (zero-add _)
  skipped_append (Skipped w x ∷ is) js = ap suc (skipped_append is js) ∙ sym (suc-add (skipped_of is) (skipped_of js))
  skipped_append (Framed k f ∷ is) js = skipped_append is js

  -- the bytes of items are those in frames and those skipped
  pub length_items : (n : ℕ) (is : List (Item W K)) → length (bytes_of is) ≡ framed (handed n is) + skipped_of is
  length_items n [] = omega arith
  length_items n (Skipped w x ∷ is) = omega (arith, length_items (n + 1) is)
  length_items n (Framed k f ∷ is) = omega (arith, length_items (n + length f) is, length-append f (bytes_of is))

  -- the frames of joined items stand one behind the other
  pub handed_append : (n : ℕ) (is js : List (Item W K)) → handed n (is ++ js) ≡ handed n is ++ handed (n + length (bytes_of is)) js
  handed_append n [] js = ap (λ m. handed m js) (sym (add-zero n))
  handed_append n (Skipped w x ∷ is) js =
      let e : n + 1 + length (bytes_of is) ≡ n + suc (length (bytes_of is)) = omega arith in
      handed_append (n + 1) is js ∙ ap (λ m. handed (n + 1) is ++ handed m js) e
  handed_append n (Framed k f ∷ is) js =
      let e : n + length f + length (bytes_of is) ≡ n + length (f ++ bytes_of is) = omega (arith, length-append f (bytes_of is)) in
      ap (λ l. record { place = n; kind = k; bytes = f } ∷ l) (handed_append (n + length f) is js ∙ ap (λ m. handed (n + length f) is ++ handed m js) e)

  -- items without frames hand out none
  pub handed_none : (n : ℕ) (is : List (Item W K)) → frames_of is ≡ [] → handed n is ≡ []
  handed_none n [] e = refl
  handed_none n (Skipped w x ∷ is) e = handed_none (n + 1) is e
  handed_none n (Framed k f ∷ is) e = let z : ◌≡◌ {A = ℕ} 0 1 = cc in absurd (omega arith)

  -- and a frame behind them stands behind as many bytes
  pub handed_one : (n : ℕ) (is : List (Item W K)) (k : K) (f : List ℕ) → frames_of is ≡ []
      → ◌≡◌ {A = List (Handed K)} (handed n (is ++ (Framed k f ∷ []))) (record { place = n + length is; kind = k; bytes = f } ∷ [])
  handed_one n [] k f e = ap (λ m. record { place = m; kind = k; bytes = f } ∷ []) (sym (add-zero n))
  handed_one n (Skipped w x ∷ is) k f e =
      let m : n + 1 + length is ≡ n + suc (length is) = omega arith in
      handed_one (n + 1) is k f e ∙ ap (λ m. record { place = m; kind = k; bytes = f } ∷ []) m
  handed_one n (Framed j g ∷ is) k f e = let z : ◌≡◌ {A = ℕ} 0 1 = cc in absurd (omega arith)
