-- Eight stores in a row are the whole area. Assumes nothing.
use mathlib.Core.Path.{◌≡◌, refl, ap, ◌∙◌}
use mathlib.Core.List.{List, [], ◌∷◌, ◌++◌}
use Prim.Native.Nat.{ℕ}
use native.Mathlib.Omega.{arith}
use lib.ListN.{length, get_or, length-set, drop_of_length-le}
use lib.Seq.{sets-eq}
use borrow.Author.Rules.{rules}
use Rattle.peerivolt.proofs.extra.fill.Goals as goal

-- a list of eight is its eight elements
eight : (x : List ℕ) → length x ≡ 8 → get_or x 0 0 ∷ get_or x 1 0 ∷ get_or x 2 0 ∷ get_or x 3 0 ∷ get_or x 4 0 ∷ get_or x 5 0 ∷ get_or x 6 0 ∷ get_or x 7 0 ∷ [] ≡ x
eight (a ∷ b ∷ c ∷ d ∷ e ∷ f ∷ g ∷ h ∷ []) l = refl
eight [] l = absurd (omega arith)
eight (a ∷ []) l = absurd (omega arith)
eight (a ∷ b ∷ []) l = absurd (omega arith)
eight (a ∷ b ∷ c ∷ []) l = absurd (omega arith)
eight (a ∷ b ∷ c ∷ d ∷ []) l = absurd (omega arith)
eight (a ∷ b ∷ c ∷ d ∷ e ∷ []) l = absurd (omega arith)
eight (a ∷ b ∷ c ∷ d ∷ e ∷ f ∷ []) l = absurd (omega arith)
eight (a ∷ b ∷ c ∷ d ∷ e ∷ f ∷ g ∷ []) l = absurd (omega arith)
eight (a ∷ b ∷ c ∷ d ∷ e ∷ f ∷ g ∷ h ∷ i ∷ s) l = absurd (omega arith)

pub bounds-extra-1 : goal.bounds-extra-1
bounds-extra-1 c = simp length-set (omega arith)

pub bounds-extra-2 : goal.bounds-extra-2
bounds-extra-2 c = simp length-set (omega arith)

pub bounds-extra-3 : goal.bounds-extra-3
bounds-extra-3 c = simp length-set (omega arith)

pub bounds-extra-4 : goal.bounds-extra-4
bounds-extra-4 c = simp length-set (omega arith)

pub bounds-extra-5 : goal.bounds-extra-5
bounds-extra-5 c = simp length-set (omega arith)

pub bounds-extra-6 : goal.bounds-extra-6
bounds-extra-6 c = simp length-set (omega arith)

pub bounds-extra-7 : goal.bounds-extra-7
bounds-extra-7 c = simp length-set (omega arith)

pub shape_of-extra : goal.shape_of-extra
shape_of-extra c = simp length-set

pub returns : goal.returns
returns c =
    let x = c.args.values in
    let l : length x ≡ 8 = search rules in
    let e = c.args.extra.now in
    let vs = get_or x 0 0 ∷ get_or x 1 0 ∷ get_or x 2 0 ∷ get_or x 3 0 ∷ get_or x 4 0 ∷ get_or x 5 0 ∷ get_or x 6 0 ∷ get_or x 7 0 ∷ [] in
    sets-eq vs e 0 (omega arith) ∙ ap (λ l. vs ++ l) (drop_of_length-le e {i = 8} (omega arith)) ∙ eight x l
