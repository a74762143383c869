-- The searches of reading and writing, one step at a time: the first bad entry, and filler that is not zero. Assumes nothing.
use Rattle.std.specs.Prelude.{Option, Some, None, MatchOption, position, zip, not, length, ◌≤◌, [], ◌∷◌}
use Rattle.std.specs.List.{position_or_len}
use Rattle.settings.specs.Write.{bad_of}
use Rattle.std.proofs.lemmas.Slice.Zip.{length-zip}
use lib.Dec.{ltb}
use mathlib.Core.Path.{◌≡◌, refl, sym, ap, ap₂, ◌∙◌, subst}
use mathlib.Core.Bool.{Bool, true, false, cond}
use mathlib.Core.List.{List}
use Prim.Native.Nat.{ℕ, zero, suc, ◌+◌, ◌-◌, ◌<◌}
use native.Mathlib.Numerals.{add-one}
use native.Mathlib.Omega.{arith}
use lib.ListN.{get_or}
use borrow.Author.Tests.{eq-eqb, ne_eqb, ltb-true, ltb-false}
use Rattle.settings.specs.Block.{bad, first_bad}
use Rattle.settings.specs.Read.{zeros}

-- what the code found of the entry that it read, r, is so of the entry that stands there
pub found_so : {r b : Bool} {d e n p m q : ℕ} → r ≡ b → r ≡ bad d n p → d ≡ e → n ≡ m → p ≡ q → bad e m q ≡ b
found_so {r} {b} {d} {e} {n} {p} {m} {q} f g z x y =
    ap₂ (λ (i j : ℕ). bad e i j) (sym x) (sym y) ∙ ap (λ (i : ℕ). bad i n p) (sym z) ∙ sym g ∙ f

module _ (e : ℕ) (f g : ℕ → ℕ) where
  pub bad_here : (i n : ℕ) → 0 < n → bad e (f i) (g i) ≡ true → first_bad e f g i n ≡ i
  unfolding first_bad
  bad_here i zero h b = refl
  bad_here i (suc n) h b = ap (λ (x : Bool). cond x i (first_bad e f g (suc i) n)) b

  pub bad_later : (i n : ℕ) → 0 < n → bad e (f i) (g i) ≡ false → first_bad e f g i n ≡ first_bad e f g (i + 1) (n - 1)
  unfolding first_bad
  bad_later i zero h b = absurd (omega arith)
  bad_later i (suc n) h b =
      let q : suc n - 1 ≡ n = omega arith in
      ap (λ (x : Bool). cond x i (first_bad e f g (suc i) n)) b ∙ rw (add-one, q)

  pub bad_none : (i n : ℕ) → n ≡ 0 → first_bad e f g i n ≡ i
  unfolding first_bad
  bad_none i n z = rw z

module _ (s : List ℕ) where
  pub not_zero : (i n : ℕ) → 0 < n → (get_or s i 0 ≡ 0 → ⊥) → false ≡ zeros s i n
  unfolding zeros
  not_zero i zero h d = absurd (omega arith)
  not_zero i (suc n) h d = simp (ne_eqb _ _ d)

  pub zero_here : (i n : ℕ) → 0 < n → get_or s i 0 ≡ 0 → zeros s i n ≡ zeros s (i + 1) (n - 1)
  unfolding zeros
  zero_here i zero h d = absurd (omega arith)
  zero_here i (suc n) h d = let q : suc n - 1 ≡ n = omega arith in rw (add-one, q, eq-eqb (get_or s i 0) 0 d)

  pub zeros_end : (i n : ℕ) → n ≡ 0 → true ≡ zeros s i n
  unfolding zeros
  zeros_end i n z = rw z

-- ---- the first bad of the pairs of two lists

pairs_from : (e : ℕ) (f g : ℕ → ℕ) (xs ys : List ℕ) (i : ℕ) → length xs ≡ length ys
    → ((k : ℕ) → k < length xs → f (i + k) ≡ get_or xs k 0) → ((k : ℕ) → k < length ys → g (i + k) ≡ get_or ys k 0)
    → first_bad e f g i (length xs) ≡ i + position_or_len (λ p. bad e p.0 p.1) (zip xs ys)
unfolding first_bad
pairs_from e f g [] [] i l hf hg = omega arith
pairs_from e f g [] (y ∷ ys) i l hf hg = absurd (omega arith)
pairs_from e f g (x ∷ xs) [] i l hf hg = absurd (omega arith)
pairs_from e f g (x ∷ xs) (y ∷ ys) i l hf hg =
    ap₂ (λ (m n : ℕ). cond (bad e m n) i (first_bad e f g (suc i) (length xs))) (ap f (omega arith) ∙ hf 0 (omega arith)) (ap g (omega arith) ∙ hg 0 (omega arith))
    ∙ go (bad e x y) (pairs_from e f g xs ys (suc i) (omega arith) (λ k h. ap f (omega arith) ∙ hf (suc k) (omega arith)) (λ k h. ap g (omega arith) ∙ hg (suc k) (omega arith)))
  where
    go : (b : Bool) → first_bad e f g (suc i) (length xs) ≡ suc i + position_or_len (λ p. bad e p.0 p.1) (zip xs ys)
        → cond b i (first_bad e f g (suc i) (length xs)) ≡ i + cond (not b) (1 + position_or_len (λ p. bad e p.0 p.1) (zip xs ys)) 0
    go true h = omega arith
    go false h = omega (arith, h)

abbrev place_in : ℕ → List ℕ → List ℕ → ℕ
place_in e ns ps = position_or_len (λ p. bad e p.0 p.1) (zip ns ps)

pub first_pair : (e : ℕ) (ns ps : List ℕ) (o : Option ℕ) → length ns ≡ length ps → o ≡ position (λ p. bad e p.0 p.1) (zip ns ps)
    → MatchOption o (length ns ≤ bad_of e ns ps) (λ k. (k ≡ bad_of e ns ps) × (k < length ns))
first_pair e ns ps o l q = subst (λ x. MatchOption x (length ns ≤ bad_of e ns ps) (λ k. (k ≡ bad_of e ns ps) × (k < length ns))) (sym q) (go (ltb (place_in e ns ps) (length (zip ns ps))) refl)
  where
    same : bad_of e ns ps ≡ place_in e ns ps
    same = pairs_from e (λ k. get_or ns k 0) (λ k. get_or ps k 0) ns ps 0 l (λ k h. ap (λ (j : ℕ). get_or ns j 0) (omega arith)) (λ k h. ap (λ (j : ℕ). get_or ps j 0) (omega arith)) ∙ omega arith

    long : length (zip ns ps) ≡ length ns
    long = length-zip ns ps ∙ omega (arith, l)

    go : (b : Bool) → ltb (place_in e ns ps) (length (zip ns ps)) ≡ b → MatchOption (cond b (Some (place_in e ns ps)) None) (length ns ≤ bad_of e ns ps) (λ k. (k ≡ bad_of e ns ps) × (k < length ns))
    go true h = (sym same, let m = ltb-true _ _ h in omega (arith, m, long))
    go false h = let m = ltb-false _ _ h in omega (arith, m, long, same)

-- the same of an edition d that is e
pub first_pair_of : (d e : ℕ) (ns ps : List ℕ) (o : Option ℕ) → d ≡ e → length ns ≡ length ps → o ≡ position (λ p. bad d p.0 p.1) (zip ns ps)
    → MatchOption o (length ns ≤ bad_of e ns ps) (λ k. (k ≡ bad_of e ns ps) × (k < length ns))
first_pair_of d e ns ps o z l q = first_pair e ns ps o l (q ∙ ap (λ (i : ℕ). position (λ p. bad i p.0 p.1) (zip ns ps)) z)
