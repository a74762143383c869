-- Satellites that fit the block of message 1059: what each of them is like, the bits that they take, and that records which a call does not refuse make such. Assumes nothing.
use mathlib.Core.Path.{◌≡◌, refl, ap, ◌∙◌}
use mathlib.Core.Bool.{Bool, true, false, cond}
use mathlib.Core.List.{List, [], ◌∷◌, ◌++◌, map}
use Prim.Native.Nat.{ℕ, zero, suc, ◌+◌, ◌*◌, ◌^◌, ◌≤◌, ◌<◌}
use native.Mathlib.Omega.{arith}
use borrow.Author.Tests.{ltb-true, ltb-false, lt-ltb, le-ltb}
use lib.ListN.{length, length-map, length-append}
use lib.IntN.{ℤ}
use lib.Dec.{eqb, ltb}
use Rattle.bits.specs.Fields.{bits, total}
use Rattle.bits.specs.Signed.{fits_unsigned, fits_twos, twos_bits}
use Rattle.bits.proofs.FieldsLaws.{total_append, total_none, total_one, total_next}
use Rattle.formats.specs.Format.{fit_each, fields_each}
use Rattle.formats.proofs.NextLaws.{both_true, true_both}
use Rattle.formats.proofs.TimesLaws.{fields_none, fields_next, total_each, fit_each_lem, fit_each_none, each_fits}
use Rattle.formats.proofs.ShapedLaws.{counted_fits, fits_counted}
use Rattle.formats.specs.Written.{fine}
use Rattle.formats.proofs.WrittenLaws.{not_refused}
use Rattle.messages.specs.Every.{Every, gather}
use Rattle.messages.specs.Records.{Rec1059, rec1059, signal_of1059}
use Rattle.messages.specs.Writer.{keep}
use Rattle.messages.specs.Signals1059.{is_signal1059}
use Rattle.messages.specs.Layout1059.{bias1059, satellite1059, block1059, Sat, of_bias, of_sat, flat1059, of_satellite, bias_of, with_some, grouped_from, grouped1059}
use Rattle.messages.specs.Write1059.{crowded, present}
use Rattle.messages.proofs.EveryLaws.{every_join, every_split}
use Rattle.messages.proofs.Accepts1059.{Writable, Fine}
use Rattle.messages.proofs.Layout1059Laws.{same_count}
use Rattle.messages.proofs.Signals1059Laws.{signal_fits}

-- ---- what fits

-- number and bias count of a satellite are in their range, and its biases fit
pub record Good (x : Sat) : Type 0 where
  pub low : x.0 ≤ 63
  pub thin : length x.1 ≤ 31
  pub biases : fit_each bias1059 x.1 ≡ true

pub good : (x : Sat) → satellite1059.fits x ≡ true → Good x
good x f =
    let b = both_true (fits_unsigned 6 x.0) _ f in
    let l : x.0 < 2 ^ 6 = ltb-true x.0 (2 ^ 6) b.0 in
    let c = fits_counted 5 bias1059 x.1 b.1 in
    let k : length x.1 < 2 ^ 5 = c.0 in
    record { low = omega arith; thin = omega arith; biases = c.1 }

-- ---- bits and records: 6 bits, 11 a satellite and 19 a record

pub own_length : (a : ℕ) (bs : List (ℕ × ℤ)) → length (gather (of_bias a) bs) ≡ length bs
unfolding gather
own_length a [] = refl
own_length a (b ∷ bs) = ap suc (own_length a bs)

total_biases : (bs : List (ℕ × ℤ)) → total (fields_each bias1059 bs) ≡ length bs * 19
total_biases bs = total_each bias1059 19 (λ b. omega (arith, total_next 5 b.0 (bits 14 (twos_bits 14 b.1) ∷ []), total_one 14 (twos_bits 14 b.1))) bs

pub total_satellites : (xs : List Sat) → total (fields_each satellite1059 xs) ≡ length xs * 11 + length (flat1059 xs) * 19
unfolding gather
total_satellites [] = ap total (fields_none satellite1059) ∙ total_none
total_satellites (x ∷ xs) =
    let bs = fields_each bias1059 x.1 in
    let fs = fields_each satellite1059 xs in
    let k = length x.1 in
    omega (arith, ap total (fields_next satellite1059 x xs), total_next 6 x.0 (bits 5 k ∷ bs ++ fs), total_next 5 k (bs ++ fs), total_append bs fs, total_biases x.1, total_satellites xs, own_length x.0 x.1, length-append (of_sat x) (flat1059 xs))

pub most : (xs : List Sat) → fit_each satellite1059 xs ≡ true → length (flat1059 xs) ≤ length xs * 31
unfolding gather
most [] f = omega arith
most (x ∷ xs) f =
    let b = each_fits satellite1059 x xs f in
    omega (arith, length-append (of_sat x) (flat1059 xs), own_length x.0 x.1, (good x b.0).thin, most xs b.1)

pub block_bits : (xs : List Sat) → total (block1059.fields xs) ≡ 6 + length xs * 11 + length (flat1059 xs) * 19
block_bits xs = omega (arith, total_next 6 (length xs) (fields_each satellite1059 xs), total_satellites xs)

-- ---- records of which nothing is refused make satellites that fit

fits_some : (a : ℕ) (rs : List Rec1059) (xs : List Sat) → a < 64 → length rs ≤ 31 → fit_each bias1059 (map bias_of rs) ≡ true → fit_each satellite1059 xs ≡ true
    → fit_each satellite1059 (with_some a rs xs) ≡ true
unfolding with_some
fits_some a [] xs l k w f = f
fits_some a (r ∷ rs) xs l k w f =
    fit_each_lem satellite1059 (a, map bias_of (r ∷ rs)) xs
    (true_both (fits_unsigned 6 a) _ (lt-ltb a (2 ^ 6) l) (counted_fits 5 bias1059 (map bias_of (r ∷ rs)) (omega (arith, length-map (r ∷ rs) bias_of, k)) w)) f

at_most : (rs : List Rec1059) (n a : ℕ) → present a n rs ≤ n
unfolding present
at_most rs zero a = omega arith
at_most rs (suc n) a = go (eqb (length (of_satellite a rs)) 0) (at_most rs n (suc a))
  where
    go : (b : Bool) → present (suc a) n rs ≤ n → cond b 0 1 + present (suc a) n rs ≤ suc n
    go true h = omega arith
    go false h = omega arith

module _ (e : ℕ) where
  fits_of : (c : ℕ) (rs : List Rec1059) → Every (Writable e) rs → fit_each bias1059 (map bias_of (of_satellite c rs)) ≡ true
  unfolding of_satellite
  fits_of c [] w = fit_each_none bias1059
  fits_of c (rec1059 b g z ∷ rs) w = go (eqb b c) (fits_of c rs w.1)
    where
      go : (q : Bool) → fit_each bias1059 (map bias_of (of_satellite c rs)) ≡ true → fit_each bias1059 (map bias_of (keep q (rec1059 b g z) (of_satellite c rs))) ≡ true
      go true r = fit_each_lem bias1059 (g, z) _ (true_both (fits_unsigned 5 g) (fits_twos 14 z) (lt-ltb g (2 ^ 5) (signal_fits e g w.0.known)) w.0.fits) r
      go false r = r

  fits_from : (rs : List Rec1059) → Every (Writable e) rs → (n a : ℕ) → a + n ≤ 64 → crowded a n rs ≡ fine → fit_each satellite1059 (grouped_from a n rs) ≡ true
  unfolding grouped_from crowded
  fits_from rs w zero a l c = fit_each_none satellite1059
  fits_from rs w (suc n) a l c =
      let t = not_refused 6 (a ∷ []) (ltb 31 (length (of_satellite a rs))) _ c in
      fits_some a (of_satellite a rs) (grouped_from (suc a) n rs) (omega arith) (ltb-false 31 (length (of_satellite a rs)) t.0) (fits_of a rs w)
      (fits_from rs w n (suc a) (omega arith) t.1)

  pub grouped_fits : (rs : List Rec1059) → Fine e rs → block1059.fits (grouped1059 rs) ≡ true
  grouped_fits rs w =
      counted_fits 6 satellite1059 (grouped1059 rs) (omega (arith, w.fewer, same_count rs 64 0, at_most rs 64 0)) (fits_from rs w.clean 64 0 (omega arith) w.thin)

  -- ---- and back: of satellites that fit, with signals of the edition, nothing is refused

  abbrev Assigned : Rec1059 → Type 0
  Assigned r = is_signal1059 e (signal_of1059 r) ≡ true

  own_writable : (a : ℕ) (bs : List (ℕ × ℤ)) → a ≤ 63 → fit_each bias1059 bs ≡ true → Every Assigned (gather (of_bias a) bs) → Every (Writable e) (gather (of_bias a) bs)
  unfolding gather
  own_writable a [] l f k = tt
  own_writable a (b ∷ bs) l f k =
      let g = each_fits bias1059 b bs f in
      (record { low = l; known = k.0; fits = (both_true (fits_unsigned 5 b.0) (fits_twos 14 b.1) g.0).1 }, own_writable a bs l g.1 k.1)

  pub all_writable : (xs : List Sat) → fit_each satellite1059 xs ≡ true → Every Assigned (flat1059 xs) → Every (Writable e) (flat1059 xs)
  unfolding gather
  all_writable [] f k = tt
  all_writable (x ∷ xs) f k =
      let b = each_fits satellite1059 x xs f in
      let g = good x b.0 in
      let h = every_split Assigned (of_sat x) (flat1059 xs) k in
      every_join (Writable e) (of_sat x) (flat1059 xs) (own_writable x.0 x.1 g.low g.biases h.0) (all_writable xs b.1 h.1)

pub thin_of : (rs : List Rec1059) (n a : ℕ) → fit_each satellite1059 (grouped_from a n rs) ≡ true → crowded a n rs ≡ fine
unfolding crowded grouped_from with_some
thin_of rs zero a f = refl
thin_of rs (suc n) a f = let g = go (of_satellite a rs) f in rw (le-ltb 31 (length (of_satellite a rs)) g.0) (thin_of rs n (suc a) g.1)
  where
    go : (l : List Rec1059) → fit_each satellite1059 (with_some a l (grouped_from (suc a) n rs)) ≡ true → (length l ≤ 31) × (fit_each satellite1059 (grouped_from (suc a) n rs) ≡ true)
    go [] f = (omega arith, f)
    go (r ∷ l) f =
        let b = each_fits satellite1059 (a, map bias_of (r ∷ l)) (grouped_from (suc a) n rs) f in
        (omega (arith, length-map (r ∷ l) bias_of, (good (a, map bias_of (r ∷ l)) b.0).thin), b.1)
