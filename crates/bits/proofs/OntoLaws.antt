-- Writing over an area, one part behind another. Assumes nothing.
use mathlib.Core.Path.{◌≡◌, sym, ap, ap₂, ◌∙◌}
use mathlib.Core.List.{List, ◌++◌}
use Prim.Native.Nat.{ℕ, ◌+◌}
use native.Mathlib.Nat.{zero-add}
use lib.ListN.{length, drop, length-append}
use lib.Seq.{take_at, drop-append-add, drop-drop}
use Rattle.bits.specs.Onto.{onto, over}

module _ {A : Type 0} where
  pub over_zero : (xs d : List A) → over 0 xs d ≡ onto xs d
  over_zero xs d = rw zero-add

  -- what is written behind xs makes xs longer
  pub over_onto : (xs ys d : List A) (i : ℕ) → length xs ≡ i → over i ys (onto xs d) ≡ onto (xs ++ ys) d
  over_onto xs ys d i e =
      ap₂ (λ (a b : List A). a ++ ys ++ b) (take_at xs (drop (length xs) d) i e)
      (ap (λ (k : ℕ). drop (k + length ys) (onto xs d)) (sym e)
      ∙ drop-append-add xs (drop (length xs) d) (length ys)
      ∙ drop-drop (length ys) (length xs) d
      ∙ ap (λ (k : ℕ). drop k d) (sym (length-append xs ys)))
