-- The order of signals: its cases, and that it is a total order. It turns round where the signals change places, signals that are equal in it
-- are the same, and it hands on. Assumes nothing.
use mathlib.Core.Path.{◌≡◌, refl, ◌∙◌, sym}
use mathlib.Core.List.{List}
use mathlib.Core.Logic.{◌⊎◌, inl, inr}
use mathlib.Core.Bool.{Bool, true, false, cond}
use Prim.Native.Nat.{ℕ, ◌<◌, ◌≤◌}
use native.Mathlib.Omega.{arith}
use borrow.Author.Tests.{lt-ltb, le-ltb, eq-eqb, ne_eqb, ltb-true, ltb-false, eqb-true, eqb-false}
use lib.Dec.{ltb, eqb}
use lib.IntN.{ℤ, neg_ℤ}
use Rattle.std.proofs.Common.{nat_cmp, Less, Equal, Greater}
use Rattle.std.specs.Ordering.{ordering_then}
use Rattle.messages.specs.Answers.{told_order}
use Rattle.messages.specs.SignalOrder.{less, equal, greater, compared, by_band, ranked, order}
use Rattle.messages.specs.Signals.{Signal, sig, Entry, At, None, number_of, Found, signal_of, Undoes}
use Rattle.messages.proofs.UndoLaws.{number_then_signal}

-- ---- two numbers

pub is_less : (m n : ℕ) → m < n → compared m n ≡ less
unfolding compared
is_less m n h = simp (lt-ltb m n h)

pub is_equal : (m n : ℕ) → m ≡ n → compared m n ≡ equal
unfolding compared
is_equal m n e = simp (le-ltb m n (omega arith), eq-eqb m n e)

pub is_greater : (m n : ℕ) → n < m → compared m n ≡ greater
unfolding compared
is_greater m n h = simp (le-ltb m n (omega arith), ne_eqb m n (λ e. omega arith))

-- ---- two signals by band, then letter

pub same_band : (b l c m : ℕ) → b ≡ c → by_band (sig b l) (sig c m) ≡ compared l m
unfolding by_band
same_band b l c m e = simp (eq-eqb b c e)

pub other_band : (b l c m : ℕ) → (b ≡ c → ⊥) → by_band (sig b l) (sig c m) ≡ compared b c
unfolding by_band
other_band b l c m e = simp (ne_eqb b c e)

-- ---- the order of the code

pub told_compared : (m n : ℕ) → told_order (nat_cmp m n) ≡ compared m n
unfolding compared
told_compared m n = go (ltb m n) (eqb m n)
  where
    go : (p q : Bool) → told_order (cond p Less (cond q Equal Greater)) ≡ cond p less (cond q equal greater)
    go true q = refl
    go false true = refl
    go false false = refl

pub told_by_band : (b l c m : ℕ) → told_order (ordering_then (nat_cmp b c) (nat_cmp l m)) ≡ by_band (sig b l) (sig c m)
unfolding by_band compared
told_by_band b l c m = go (ltb b c) refl (eqb b c) refl
  where
    go : (p : Bool) → ltb b c ≡ p → (q : Bool) → eqb b c ≡ q → told_order (ordering_then (nat_cmp b c) (nat_cmp l m)) ≡ by_band (sig b l) (sig c m)
    go true f true g = let h = ltb-true b c f in let k = eqb-true b c g in absurd (omega arith)
    go true f false g = rw (f, g)
    go false f true g = rw (f, g) (told_compared l m)
    go false f false g = rw (f, g)

-- ---- two signals by a table

module _ (t : List Entry) (a b : Signal) where
  pub both_assigned : {m n : ℕ} → number_of t a ≡ At m → number_of t b ≡ At n → order t a b ≡ compared m n
  unfolding order ranked
  both_assigned f g = rw (f, g)

  pub first_assigned : {m : ℕ} → number_of t a ≡ At m → number_of t b ≡ None → order t a b ≡ less
  unfolding order ranked
  first_assigned f g = rw (f, g)

  pub second_assigned : {n : ℕ} → number_of t a ≡ None → number_of t b ≡ At n → order t a b ≡ greater
  unfolding order ranked
  second_assigned f g = rw (f, g)

  pub none_assigned : number_of t a ≡ None → number_of t b ≡ None → order t a b ≡ by_band a b
  unfolding order ranked
  none_assigned f g = rw (f, g)

-- ---- a total order: its three answers differ

equal_not_less : equal ≡ less → ⊥
equal_not_less e = let z : ◌≡◌ {A = ℕ} 0 1 = cc in omega arith

greater_not_less : greater ≡ less → ⊥
greater_not_less e = let z : ◌≡◌ {A = ℕ} 0 1 = cc in omega arith

less_not_equal : less ≡ equal → ⊥
less_not_equal e = let z : ◌≡◌ {A = ℕ} 0 1 = cc in omega arith

greater_not_equal : greater ≡ equal → ⊥
greater_not_equal e = let z : ◌≡◌ {A = ℕ} 0 1 = cc in omega arith

-- ---- a total order: two numbers

data Stand (m n : ℕ) : Type 0 where
  below : m < n → Stand m n
  level : m ≡ n → Stand m n
  above : n < m → Stand m n

stand_by : (m n : ℕ) (p q : Bool) → ltb m n ≡ p → eqb m n ≡ q → Stand m n
stand_by m n true q e f = below (ltb-true m n e)
stand_by m n false true e f = level (eqb-true m n f)
stand_by m n false false e f =
    let h : n ≤ m = ltb-false m n e in let g : m ≡ n → ⊥ = eqb-false m n f in above (omega arith)

stand : (m n : ℕ) → Stand m n
stand m n = stand_by m n (ltb m n) (eqb m n) refl refl

swap_by : (m n : ℕ) → Stand m n → compared n m ≡ neg_ℤ (compared m n)
swap_by m n (below h) = rw (is_less m n h, is_greater n m h)
swap_by m n (level e) = rw (is_equal m n e, is_equal n m (sym e))
swap_by m n (above h) = rw (is_greater m n h, is_less n m h)

less_by : (m n : ℕ) → Stand m n → compared m n ≡ less → m < n
less_by m n (below h) g = h
less_by m n (level e) g = absurd (equal_not_less (sym (is_equal m n e) ∙ g))
less_by m n (above h) g = absurd (greater_not_less (sym (is_greater m n h) ∙ g))

equal_by : (m n : ℕ) → Stand m n → compared m n ≡ equal → m ≡ n
equal_by m n (below h) g = absurd (less_not_equal (sym (is_less m n h) ∙ g))
equal_by m n (level e) g = e
equal_by m n (above h) g = absurd (greater_not_equal (sym (is_greater m n h) ∙ g))

swap_numbers : (m n : ℕ) → compared n m ≡ neg_ℤ (compared m n)
swap_numbers m n = swap_by m n (stand m n)

less_numbers : (m n : ℕ) → compared m n ≡ less → m < n
less_numbers m n g = less_by m n (stand m n) g

equal_numbers : (m n : ℕ) → compared m n ≡ equal → m ≡ n
equal_numbers m n g = equal_by m n (stand m n) g

-- ---- a total order: two signals by band, then letter

swap_bands_by : (b l c m : ℕ) → Stand b c → by_band (sig c m) (sig b l) ≡ neg_ℤ (by_band (sig b l) (sig c m))
swap_bands_by b l c m (below h) = rw (other_band c m b l (λ e. omega arith), other_band b l c m (λ e. omega arith)) (swap_numbers b c)
swap_bands_by b l c m (level e) = rw (same_band c m b l (sym e), same_band b l c m e) (swap_numbers l m)
swap_bands_by b l c m (above h) = rw (other_band c m b l (λ e. omega arith), other_band b l c m (λ e. omega arith)) (swap_numbers b c)

swap_bands : (x y : Signal) → by_band y x ≡ neg_ℤ (by_band x y)
swap_bands (sig b l) (sig c m) = swap_bands_by b l c m (stand b c)

less_bands_by : (b l c m : ℕ) → Stand b c → by_band (sig b l) (sig c m) ≡ less → (b < c) ⊎ ((b ≡ c) × (l < m))
less_bands_by b l c m (below h) g = inl h
less_bands_by b l c m (level e) g = inr (e, less_numbers l m (sym (same_band b l c m e) ∙ g))
less_bands_by b l c m (above h) g = inl (less_numbers b c (sym (other_band b l c m (λ e. omega arith)) ∙ g))

equal_bands_by : (b l c m : ℕ) → Stand b c → by_band (sig b l) (sig c m) ≡ equal → (b ≡ c) × (l ≡ m)
equal_bands_by b l c m (below h) g = absurd (less_not_equal (sym (is_less b c h) ∙ (sym (other_band b l c m (λ e. omega arith)) ∙ g)))
equal_bands_by b l c m (level e) g = (e, equal_numbers l m (sym (same_band b l c m e) ∙ g))
equal_bands_by b l c m (above h) g = absurd (greater_not_equal (sym (is_greater b c h) ∙ (sym (other_band b l c m (λ e. omega arith)) ∙ g)))

equal_bands : (x y : Signal) → by_band x y ≡ equal → x ≡ y
equal_bands (sig b l) (sig c m) g = let p : (b ≡ c) × (l ≡ m) = equal_bands_by b l c m (stand b c) g in cc

chain_by : (b l c m d k : ℕ) → (b < c) ⊎ ((b ≡ c) × (l < m)) → (c < d) ⊎ ((c ≡ d) × (m < k)) → by_band (sig b l) (sig d k) ≡ less
chain_by b l c m d k (inl h) (inl g) = other_band b l d k (λ e. omega arith) ∙ is_less b d (omega arith)
chain_by b l c m d k (inl h) (inr g) = other_band b l d k (λ e. omega arith) ∙ is_less b d (omega arith)
chain_by b l c m d k (inr h) (inl g) = other_band b l d k (λ e. omega arith) ∙ is_less b d (omega arith)
chain_by b l c m d k (inr h) (inr g) = same_band b l d k (omega arith) ∙ is_less l k (omega arith)

chain_bands : (x y z : Signal) → by_band x y ≡ less → by_band y z ≡ less → by_band x z ≡ less
chain_bands (sig b l) (sig c m) (sig d k) e f = chain_by b l c m d k (less_bands_by b l c m (stand b c) e) (less_bands_by c m d k (stand c d) f)

-- ---- a total order: two signals by a table

swap_ranked : (f g : Found ℕ) (x y : ℤ) → y ≡ neg_ℤ x → ranked g f y ≡ neg_ℤ (ranked f g x)
unfolding ranked
swap_ranked (At m) (At n) x y e = swap_numbers m n
swap_ranked (At m) None x y e = refl
swap_ranked None (At n) x y e = refl
swap_ranked None None x y e = e

chain_ranked : (f g h : Found ℕ) {x y z : ℤ} → (x ≡ less → y ≡ less → z ≡ less) → ranked f g x ≡ less → ranked g h y ≡ less → ranked f h z ≡ less
unfolding ranked
chain_ranked (At m) (At n) (At k) i e f =
    let p : m < n = less_numbers m n e in let q : n < k = less_numbers n k f in is_less m k (omega arith)
chain_ranked (At m) (At n) None i e f = refl
chain_ranked (At m) None (At k) i e f = absurd (greater_not_less f)
chain_ranked (At m) None None i e f = refl
chain_ranked None (At n) h i e f = absurd (greater_not_less e)
chain_ranked None None (At k) i e f = absurd (greater_not_less f)
chain_ranked None None None i e f = i e f

-- the order turns round where the signals change places
pub order_swap : (t : List Entry) (x y : Signal) → order t y x ≡ neg_ℤ (order t x y)
unfolding order
order_swap t x y = swap_ranked (number_of t x) (number_of t y) (by_band x y) (by_band y x) (swap_bands x y)

-- a signal before another that is before a third is before the third
pub order_chain : (t : List Entry) (x y z : Signal) → order t x y ≡ less → order t y z ≡ less → order t x z ≡ less
unfolding order
order_chain t x y z e f = chain_ranked (number_of t x) (number_of t y) (number_of t z) (λ p q. chain_bands x y z p q) e f

equal_ranked : (t : List Entry) → Undoes t → (b l c m : ℕ) (f g : Found ℕ) → number_of t (sig b l) ≡ f → number_of t (sig c m) ≡ g → ranked f g (by_band (sig b l) (sig c m)) ≡ equal → sig b l ≡ sig c m
unfolding ranked
equal_ranked t u b l c m (At i) (At j) p q e =
    let s : i ≡ j = equal_numbers i j e in
    let v : signal_of t i ≡ At (sig b l) = number_then_signal t u i b l p in
    let w : signal_of t j ≡ At (sig c m) = number_then_signal t u j c m q in
    cc
equal_ranked t u b l c m (At i) None p q e = absurd (less_not_equal e)
equal_ranked t u b l c m None (At j) p q e = absurd (greater_not_equal e)
equal_ranked t u b l c m None None p q e = equal_bands (sig b l) (sig c m) e

-- signals that are equal in the order of a table are the same
pub order_equal : (t : List Entry) → Undoes t → (x y : Signal) → order t x y ≡ equal → x ≡ y
unfolding order
order_equal t u (sig b l) (sig c m) e = equal_ranked t u b l c m (number_of t (sig b l)) (number_of t (sig c m)) refl refl e

same_ranked : (f : Found ℕ) {x : ℤ} → x ≡ equal → ranked f f x ≡ equal
unfolding ranked
same_ranked (At m) e = is_equal m m refl
same_ranked None e = e

same_bands : (x : Signal) → by_band x x ≡ equal
same_bands (sig b l) = same_band b l b l refl ∙ is_equal l l refl

-- and a signal is equal to itself
pub order_same : (t : List Entry) (x : Signal) → order t x x ≡ equal
unfolding order
order_same t x = same_ranked (number_of t x) (same_bands x)
