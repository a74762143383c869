-- The header of message 1059, as the code tests it. Assumes nothing.
use mathlib.Core.Path.{◌≡◌, refl}
use mathlib.Core.Bool.{true, false}
use mathlib.Core.List.{List}
use Prim.Native.Nat.{ℕ, ◌^◌, ◌≤◌, ◌<◌}
use native.Mathlib.Omega.{arith}
use borrow.Author.Tests.{lt-ltb, le-ltb, ltb-true}
use lib.Dec.{ltb, lit≤}
use Rattle.bits.specs.Fields.{total}
use Rattle.bits.specs.Signed.{fits_unsigned}
use Rattle.bits.proofs.FieldsLaws.{total_none, total_next}
use Rattle.formats.specs.Faithful.{Faithful}
use Rattle.formats.specs.Put.{IsPut}
use Rattle.formats.proofs.NextLaws.{both_true}
use Rattle.formats.proofs.NumberedLaws.{numbered_faithful}
use Rattle.formats.proofs.GoodLaws.{Good, unsigned_good, then_good, shaped_good}
use Rattle.whole.specs.declared.answer.Header1059.{Header1059}
use Rattle.whole.specs.Headers.{of1059, to1059, header1059, front1059, header_fits1059, fields1059}

good : Good header1059
good =
    shaped_good to1059 of1059 (record { to_from = λ b g. refl; from_to = λ a g. refl })
    (then_good (unsigned_good 20 (lit≤ tt) (lit≤ tt))
    (then_good (unsigned_good 4 (lit≤ tt) (lit≤ tt))
    (then_good (unsigned_good 1 (lit≤ tt) (lit≤ tt))
    (then_good (unsigned_good 4 (lit≤ tt) (lit≤ tt))
    (then_good (unsigned_good 16 (lit≤ tt) (lit≤ tt))
    (unsigned_good 4 (lit≤ tt) (lit≤ tt)))))))

pub front_faithful : Faithful front1059
front_faithful = numbered_faithful 1059 header1059 (lit≤ tt) good.faithful

pub front_bits : (h : Header1059) → total (fields1059 h) ≡ 61
front_bits h = rw (total_next, total_next, total_next, total_next, total_next, total_next, total_next, total_none)

pub front_ends : {s t : List ℕ} {h : Header1059} {q : ℕ} → IsPut s 0 (fields1059 h) t q → IsPut s 0 (fields1059 h) t 61
front_ends {s} {t} {h} {q} d = let b = front_bits h in record { end = omega (arith, b); left = d.left }

module _ (h : Header1059) where
  pub wide_epoch : 2 ^ 20 ≤ h.epoch → false ≡ header_fits1059 h
  wide_epoch p = rw (le-ltb h.epoch (2 ^ 20) p)

  module _ (a : h.epoch < 2 ^ 20) where
    pub wide_interval : 2 ^ 4 ≤ h.interval → false ≡ header_fits1059 h
    wide_interval p = rw (lt-ltb h.epoch (2 ^ 20) a, le-ltb h.interval (2 ^ 4) p)

    module _ (b : h.interval < 2 ^ 4) where
      pub wide_multiple : 2 ^ 1 ≤ h.multiple → false ≡ header_fits1059 h
      wide_multiple p = rw (lt-ltb h.epoch (2 ^ 20) a, lt-ltb h.interval (2 ^ 4) b, le-ltb h.multiple (2 ^ 1) p)

      module _ (c : h.multiple < 2 ^ 1) where
        pub wide_iod : 2 ^ 4 ≤ h.iod → false ≡ header_fits1059 h
        wide_iod p = rw (lt-ltb h.epoch (2 ^ 20) a, lt-ltb h.interval (2 ^ 4) b, lt-ltb h.multiple (2 ^ 1) c, le-ltb h.iod (2 ^ 4) p)

        module _ (d : h.iod < 2 ^ 4) where
          pub wide_provider : 2 ^ 16 ≤ h.provider → false ≡ header_fits1059 h
          wide_provider p = rw (lt-ltb h.epoch (2 ^ 20) a, lt-ltb h.interval (2 ^ 4) b, lt-ltb h.multiple (2 ^ 1) c, lt-ltb h.iod (2 ^ 4) d, le-ltb h.provider (2 ^ 16) p)

          module _ (e : h.provider < 2 ^ 16) where
            pub last_decides : ltb h.solution 16 ≡ header_fits1059 h
            last_decides = rw (lt-ltb h.epoch (2 ^ 20) a, lt-ltb h.interval (2 ^ 4) b, lt-ltb h.multiple (2 ^ 1) c, lt-ltb h.iod (2 ^ 4) d, lt-ltb h.provider (2 ^ 16) e)

  -- what fits is within its width
  pub record Within : Type 0 where
    pub epoch : h.epoch < 2 ^ 20
    pub interval : h.interval < 2 ^ 4
    pub multiple : h.multiple < 2 ^ 1
    pub iod : h.iod < 2 ^ 4
    pub provider : h.provider < 2 ^ 16
    pub solution : h.solution < 2 ^ 4

  pub within : header_fits1059 h ≡ true → Within
  within f =
      let x0 = both_true (fits_unsigned 20 h.epoch) _ f in
      let x1 = both_true (fits_unsigned 4 h.interval) _ x0.1 in
      let x2 = both_true (fits_unsigned 1 h.multiple) _ x1.1 in
      let x3 = both_true (fits_unsigned 4 h.iod) _ x2.1 in
      let x4 = both_true (fits_unsigned 16 h.provider) (fits_unsigned 4 h.solution) x3.1 in
      record { epoch = ltb-true _ _ x0.0; interval = ltb-true _ _ x1.0; multiple = ltb-true _ _ x2.0; iod = ltb-true _ _ x3.0; provider = ltb-true _ _ x4.0; solution = ltb-true _ _ x4.1 }
