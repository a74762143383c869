-- The header of message 1230, as the code tests it. Assumes nothing.
use mathlib.Core.Path.{◌≡◌, refl}
use mathlib.Core.Bool.{true, false}
use mathlib.Core.List.{List}
use Prim.Native.Nat.{ℕ, ◌^◌, ◌≤◌, ◌<◌}
use native.Mathlib.Omega.{arith}
use borrow.Author.Tests.{lt-ltb, le-ltb, ltb-true}
use lib.Dec.{ltb, lit≤}
use Rattle.bits.specs.Fields.{total}
use Rattle.bits.specs.Signed.{fits_unsigned}
use Rattle.bits.proofs.FieldsLaws.{total_none, total_next}
use Rattle.formats.specs.Faithful.{Faithful}
use Rattle.formats.specs.Put.{IsPut}
use Rattle.formats.proofs.NextLaws.{both_true}
use Rattle.formats.proofs.NumberedLaws.{numbered_faithful}
use Rattle.formats.proofs.GoodLaws.{Good, unsigned_good, then_good, shaped_good}
use Rattle.whole.specs.declared.answer.Header1230.{Header1230}
use Rattle.whole.specs.Headers.{of1230, to1230, header1230, front1230, header_fits1230, fields1230}

good : Good header1230
good =
    shaped_good to1230 of1230 (record { to_from = λ b g. refl; from_to = λ a g. refl })
    (then_good (unsigned_good 12 (lit≤ tt) (lit≤ tt))
    (then_good (unsigned_good 1 (lit≤ tt) (lit≤ tt))
    (unsigned_good 3 (lit≤ tt) (lit≤ tt))))

pub front_faithful : Faithful front1230
front_faithful = numbered_faithful 1230 header1230 (lit≤ tt) good.faithful

pub front_bits : (h : Header1230) → total (fields1230 h) ≡ 28
front_bits h = rw (total_next, total_next, total_next, total_next, total_none)

pub front_ends : {s t : List ℕ} {h : Header1230} {q : ℕ} → IsPut s 0 (fields1230 h) t q → IsPut s 0 (fields1230 h) t 28
front_ends {s} {t} {h} {q} d = let b = front_bits h in record { end = omega (arith, b); left = d.left }

module _ (h : Header1230) where
  pub wide_station : 2 ^ 12 ≤ h.station → false ≡ header_fits1230 h
  wide_station p = rw (le-ltb h.station (2 ^ 12) p)

  module _ (a : h.station < 2 ^ 12) where
    pub wide_indicator : 2 ^ 1 ≤ h.indicator → false ≡ header_fits1230 h
    wide_indicator p = rw (lt-ltb h.station (2 ^ 12) a, le-ltb h.indicator (2 ^ 1) p)

    module _ (b : h.indicator < 2 ^ 1) where
      pub last_decides : ltb h.reserved 8 ≡ header_fits1230 h
      last_decides = rw (lt-ltb h.station (2 ^ 12) a, lt-ltb h.indicator (2 ^ 1) b)

  -- what fits is within its width
  pub record Within : Type 0 where
    pub station : h.station < 2 ^ 12
    pub indicator : h.indicator < 2 ^ 1
    pub reserved : h.reserved < 2 ^ 3

  pub within : header_fits1230 h ≡ true → Within
  within f =
      let x0 = both_true (fits_unsigned 12 h.station) _ f in
      let x1 = both_true (fits_unsigned 1 h.indicator) (fits_unsigned 3 h.reserved) x0.1 in
      record { station = ltb-true _ _ x0.0; indicator = ltb-true _ _ x1.0; reserved = ltb-true _ _ x1.1 }
