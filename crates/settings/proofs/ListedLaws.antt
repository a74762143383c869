-- Lists that a function gives, place by place; and writing one over the front of an area, one place after another. Assumes nothing.
use mathlib.Core.Path.{◌≡◌, refl, sym, ap, ap₂, ◌∙◌}
use mathlib.Core.List.{List, [], ◌∷◌, ◌++◌}
use Prim.Native.Nat.{ℕ, zero, suc, ◌+◌, ◌<◌}
use native.Mathlib.Nat.{add-zero, zero-add}
use native.Mathlib.Numerals.{add-one}
use native.Mathlib.Omega.{arith}
use lib.ListN.{length, get_or, set, drop}
use lib.Seq.{ext_get_or, drop-cons, set_at, append_snoc}
use Rattle.bits.specs.Onto.{onto}
use Rattle.settings.specs.Block.{listed}

module _ (f : ℕ → ℕ) where
  pub length_listed : (n i : ℕ) → length (listed f i n) ≡ n
  unfolding listed
  length_listed zero i = refl
  length_listed (suc n) i = ap suc (length_listed n (suc i))

  pub listed_more : (n i : ℕ) → listed f i (suc n) ≡ listed f i n ++ (f (i + n) ∷ [])
  unfolding listed
  listed_more zero i = ap (λ (k : ℕ). f k ∷ []) (sym (add-zero i))
  listed_more (suc n) i =
      let e : suc i + n ≡ i + suc n = omega arith in
      ap (λ (t : List ℕ). f i ∷ t) (listed_more n (suc i) ∙ ap (λ (k : ℕ). listed f (suc i) n ++ (f k ∷ [])) e)

  pub get_d_listed : (n i k : ℕ) → k < n → get_or (listed f i n) k 0 ≡ f (i + k)
  unfolding listed
  get_d_listed zero i k h = absurd (omega arith)
  get_d_listed (suc n) i zero h = ap f (sym (add-zero i))
  get_d_listed (suc n) i (suc k) h = let e : suc i + k ≡ i + suc k = omega arith in get_d_listed n (suc i) k (omega arith) ∙ ap f e

  -- nothing is written yet
  pub onto_none : (d : List ℕ) → d ≡ onto (listed f 0 0) d
  unfolding listed
  onto_none d = refl

  -- place k is written next
  pub onto_next : (d s : List ℕ) (k v : ℕ) → s ≡ onto (listed f 0 k) d → k < length d → v ≡ f k → set s k v ≡ onto (listed f 0 (k + 1)) d
  onto_next d s k v e h q =
      let l : length (listed f 0 k) ≡ k = length_listed k 0 in
      let m : length (listed f 0 (suc k)) ≡ suc k = length_listed (suc k) 0 in
      ap₂ (λ (t : List ℕ) (x : ℕ). set t k x) (e ∙ ap (λ (n : ℕ). listed f 0 k ++ drop n d) l ∙ ap (λ (t : List ℕ). listed f 0 k ++ t) (drop-cons d k 0 h)) q
      ∙ set_at (listed f 0 k) (get_or d k 0) (drop (suc k) d) (f k) k l
      ∙ sym (append_snoc (listed f 0 k) (f k) (drop (suc k) d))
      ∙ ap₂ (λ (t : List ℕ) (n : ℕ). t ++ drop n d) (sym (listed_more k 0 ∙ ap (λ (n : ℕ). listed f 0 k ++ (f n ∷ [])) (zero-add k))) (sym m)
      ∙ ap (λ (n : ℕ). onto (listed f 0 n) d) (sym (add-one k))

-- a list is what is listed of it
pub listed_self : (s : List ℕ) (n : ℕ) → length s ≡ n → (f : ℕ → ℕ) → ((i : ℕ) → i < n → get_or s i 0 ≡ f i) → s ≡ listed f 0 n
listed_self s n e f h =
    ext_get_or 0 s (listed f 0 n) (e ∙ sym (length_listed f n 0))
    (λ i l. h i (omega arith) ∙ sym (get_d_listed f n 0 i (omega arith) ∙ ap f (zero-add i)))

-- lists given by functions that agree are equal
pub listed_ext : (f g : ℕ → ℕ) (n : ℕ) → ((i : ℕ) → i < n → f i ≡ g i) → listed f 0 n ≡ listed g 0 n
listed_ext f g n h =
    listed_self (listed f 0 n) n (length_listed f n 0) g (λ i l. get_d_listed f n 0 i l ∙ ap f (zero-add i) ∙ h i l)
