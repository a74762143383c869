-- Satellites that fit and ascend strictly, each with a bias, are found again from their records, and records from their satellites. Assumes nothing.
use mathlib.Core.Path.{◌≡◌, refl, sym, ap, ap₂, subst, ◌∙◌}
use mathlib.Core.Bool.{Bool, true, false}
use mathlib.Core.List.{List, [], ◌∷◌, ◌++◌, map, append-nil}
use Prim.Native.Nat.{ℕ, zero, suc, ◌+◌, ◌≤◌, ◌<◌}
use native.Mathlib.Decide.{ℕ_discrete}
use native.Mathlib.Omega.{arith}
use borrow.Author.Tests.{eq-eqb, ne_eqb, eqb-true}
use lib.ListN.{length}
use lib.IntN.{ℤ}
use lib.Dec.{eqb}
use Rattle.formats.specs.Format.{fit_each}
use Rattle.formats.proofs.TimesLaws.{each_fits}
use Rattle.messages.specs.Every.{Every, gather}
use Rattle.messages.specs.Records.{Rec1059, rec1059}
use Rattle.messages.specs.Writer.{keep}
use Rattle.messages.specs.Layout1059.{satellite1059, Sat, of_bias, of_sat, flat1059, of_satellite, bias_of, with_some, grouped_from, grouped1059}
use Rattle.messages.specs.Satellites1059.{AscendingFrom}
use Rattle.messages.specs.InOrder.{records_from, in_order1059}
use Rattle.messages.proofs.Fits1059Laws.{good}

-- ---- the records of one satellite among all

own : (c : ℕ) (bs : List (ℕ × ℤ)) (rs : List Rec1059) → of_satellite c (gather (of_bias c) bs ++ rs) ≡ gather (of_bias c) bs ++ of_satellite c rs
unfolding of_satellite gather
own c [] rs = refl
own c (b ∷ bs) rs = rw (eq-eqb c c refl) (ap (λ (l : List Rec1059). rec1059 c b.0 b.1 ∷ l) (own c bs rs))

other : (b c : ℕ) (bs : List (ℕ × ℤ)) (rs : List Rec1059) → (b ≡ c → ⊥) → of_satellite c (gather (of_bias b) bs ++ rs) ≡ of_satellite c rs
unfolding of_satellite gather
other b c [] rs n = refl
other b c (x ∷ bs) rs n = rw (ne_eqb b c n) (other b c bs rs n)

later : (c a : ℕ) (xs : List Sat) → c < a → AscendingFrom a xs → of_satellite c (flat1059 xs) ≡ []
unfolding of_satellite gather AscendingFrom
later c a [] l up = refl
later c a (x ∷ xs) l up = other x.0 c x.1 (flat1059 xs) (λ e. omega (arith, up.0)) ∙ later c (suc x.0) xs (omega (arith, up.0)) up.1

-- ---- grouping the records of satellites

biases_again : (a : ℕ) (bs : List (ℕ × ℤ)) → map bias_of (gather (of_bias a) bs) ≡ bs
unfolding gather
biases_again a [] = refl
biases_again a (b ∷ bs) = ap (λ (l : List (ℕ × ℤ)). b ∷ l) (biases_again a bs)

with_some_lem : (a : ℕ) (bs : List (ℕ × ℤ)) (xs : List Sat) → 1 ≤ length bs → with_some a (gather (of_bias a) bs) xs ≡ (a, bs) ∷ xs
unfolding gather with_some
with_some_lem a [] xs some = absurd (omega arith)
with_some_lem a (b ∷ bs) xs some = ap (λ (l : List (ℕ × ℤ)). (a, b ∷ l) ∷ xs) (biases_again a bs)

-- records of a satellite that is past change nothing
past : (b : ℕ) (bs : List (ℕ × ℤ)) (rs : List Rec1059) (n c : ℕ) → b < c → grouped_from c n (gather (of_bias b) bs ++ rs) ≡ grouped_from c n rs
unfolding grouped_from
past b bs rs zero c l = refl
past b bs rs (suc n) c l = ap₂ (with_some c) (other b c bs rs (λ e. omega arith)) (past b bs rs n (suc c) (omega arith))

-- satellites that fit, from a on
record From (a : ℕ) (xs : List Sat) : Type 0 where
  pub up : AscendingFrom a xs
  pub fits : fit_each satellite1059 xs ≡ true
  pub some : Every (λ x. 1 ≤ length x.1) xs

again : (n a : ℕ) (xs : List Sat) → a + n ≡ 64 → From a xs → grouped_from a n (flat1059 xs) ≡ xs
unfolding AscendingFrom gather grouped_from with_some of_satellite
again zero a [] m f = refl
again zero a (x ∷ xs) m f = absurd (omega (arith, f.up.0, (good x (each_fits satellite1059 x xs f.fits).0).low))
again (suc n) a [] m f = again n (suc a) [] (omega arith) (record { up = tt; fits = f.fits; some = tt })
again (suc n) a (x ∷ xs) m f = go (λ ys. again n (suc a) ys (omega arith)) (ℕ_discrete x.0 a)
  where
    go : ((ys : List Sat) → From (suc a) ys → grouped_from (suc a) n (flat1059 ys) ≡ ys)
        → Dec (x.0 ≡ a) → with_some a (of_satellite a (of_sat x ++ flat1059 xs)) (grouped_from (suc a) n (of_sat x ++ flat1059 xs)) ≡ x ∷ xs
    go ih (yes e) =
        let bs = x.1 in
        let up : AscendingFrom (suc a) xs = subst (λ (k : ℕ). AscendingFrom (suc k) xs) e f.up.1 in
        let mine = own a bs (flat1059 xs) ∙ ap (λ (l : List Rec1059). gather (of_bias a) bs ++ l) (later a (suc a) xs (omega arith) up) ∙ append-nil (gather (of_bias a) bs) in
        ap (λ (k : ℕ). with_some a (of_satellite a (gather (of_bias k) bs ++ flat1059 xs)) (grouped_from (suc a) n (gather (of_bias k) bs ++ flat1059 xs))) e
        ∙ ap₂ (with_some a) mine (past a bs (flat1059 xs) n (suc a) (omega arith) ∙ ih xs (record { up = up; fits = (each_fits satellite1059 x xs f.fits).1; some = f.some.1 }))
        ∙ with_some_lem a bs xs f.some.0
        ∙ ap (λ (k : ℕ). (k, bs) ∷ xs) (sym e)
    go ih (no d) =
        let u : suc a ≤ x.0 = omega (arith, f.up.0) in
        ap₂ (with_some a) (later a (suc a) (x ∷ xs) (omega arith) (u, f.up.1)) (ih (x ∷ xs) (record { up = (u, f.up.1); fits = f.fits; some = f.some }))

pub grouped_again : (xs : List Sat) → AscendingFrom 0 xs → fit_each satellite1059 xs ≡ true → Every (λ x. 1 ≤ length x.1) xs → grouped1059 (flat1059 xs) ≡ xs
grouped_again xs up fits some = again 64 0 xs refl (record { up = up; fits = fits; some = some })

-- ---- the records of grouped satellites are those of the list in order

own_again : (a : ℕ) (rs : List Rec1059) → gather (of_bias a) (map bias_of (of_satellite a rs)) ≡ of_satellite a rs
unfolding gather of_satellite
own_again a [] = refl
own_again a (rec1059 b g z ∷ rs) = go (eqb b a) refl (own_again a rs)
  where
    go : (q : Bool) → eqb b a ≡ q → gather (of_bias a) (map bias_of (of_satellite a rs)) ≡ of_satellite a rs
        → gather (of_bias a) (map bias_of (keep q (rec1059 b g z) (of_satellite a rs))) ≡ keep q (rec1059 b g z) (of_satellite a rs)
    go true q e = ap₂ (λ (c : ℕ) (l : List Rec1059). rec1059 c g z ∷ l) (sym (eqb-true b a q)) e
    go false q e = e

flat_some : (a : ℕ) (rs : List Rec1059) (xs : List Sat) → gather (of_bias a) (map bias_of rs) ≡ rs → flat1059 (with_some a rs xs) ≡ rs ++ flat1059 xs
unfolding gather with_some
flat_some a [] xs e = refl
flat_some a (r ∷ rs) xs e = ap (λ (l : List Rec1059). l ++ gather of_sat xs) e

flat_from : (rs : List Rec1059) (n a : ℕ) → flat1059 (grouped_from a n rs) ≡ records_from a n rs
unfolding gather grouped_from records_from
flat_from rs zero a = refl
flat_from rs (suc n) a =
    flat_some a (of_satellite a rs) (grouped_from (suc a) n rs) (own_again a rs)
    ∙ ap (λ (l : List Rec1059). of_satellite a rs ++ l) (flat_from rs n (suc a))

pub flat_grouped : (rs : List Rec1059) → flat1059 (grouped1059 rs) ≡ in_order1059 rs
flat_grouped rs = flat_from rs 64 0
