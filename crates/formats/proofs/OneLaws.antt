-- A format of one field is faithful where number and meaning undo each other. Assumes nothing.
use mathlib.Core.Path.{◌≡◌, refl, sym, ap, ap₂, subst, ◌∙◌}
use mathlib.Core.Bool.{Bool, true}
use mathlib.Core.List.{List, [], ◌∷◌}
use Prim.Native.Nat.{ℕ, ◌+◌, ◌^◌, ◌≤◌, ◌<◌}
use native.Mathlib.Omega.{arith}
use borrow.Author.Tests.{lt-ltb, ltb-true}
use lib.ListN.{length}
use Rattle.bits.specs.Told.{Told, Accepted, Refused}
use Rattle.bits.specs.Field.{field, Reading, reading, cut_at, read_by}
use Rattle.bits.specs.Fields.{bits, total}
use Rattle.bits.specs.Signed.{fits_unsigned, fits_twos, twos_bits, twos_of}
use Rattle.bits.proofs.FieldLaws.{field_lt}
use Rattle.bits.proofs.FieldsLaws.{total_one, holds_first, holds_one, fit_none, fit_next}
use Rattle.bits.proofs.ReadLaws.{reads_value, read_tells, refused_short}
use Rattle.bits.proofs.SignedLaws.{twos_bits_lt, twos_back, twos_fits, twos_again}
use Rattle.formats.specs.Format.{coded, unsigned, twos}
use Rattle.formats.specs.Faithful.{Stands, Faithful, Cut, OnlyShort}

module _ {A : Type 0} (w : ℕ) (fit : A → Bool) (number : A → ℕ) (meaning : ℕ → A) where
  -- number and meaning undo each other, the one on what fits, the other on w bits
  pub record Undo : Type 0 where
    pub low : 1 ≤ w
    pub high : w ≤ 64
    pub small : (a : A) → fit a ≡ true → number a < 2 ^ w
    pub means : (a : A) → fit a ≡ true → meaning (number a) ≡ a
    pub reached : (v : ℕ) → v < 2 ^ w → fit (meaning v) ≡ true
    pub again : (v : ℕ) → v < 2 ^ w → number (meaning v) ≡ v

  pub coded_faithful : Undo → Faithful (coded w fit number meaning)
  coded_faithful u =
      record {
        back = λ s p a few f h l.
            let one = total_one w (number a) in
            let e : p + w ≡ p + total (bits w (number a) ∷ []) = omega (arith, one) in
            reads_value meaning s p w few u.low u.high (omega (arith, one, l))
            ∙ ap₂ (λ (x : A) (q : ℕ). Accepted (reading x q)) (ap meaning (holds_first s p w (number a) [] h) ∙ u.means a f) e;
        there = λ s p r e.
            let t = read_tells meaning s p w e in
            subst (λ (x : Reading A). Stands (coded w fit number meaning) s p x.value x.next) (sym t.is)
            (record {
              fitting = u.reached (field s p w) (field_lt s p w);
              holds = holds_one s p w _ (sym (u.again (field s p w) (field_lt s p w)));
              ends = let one = total_one w (number (meaning (field s p w))) in omega (arith, one);
              within = λ some. t.within;
            });
        fit = λ a f. fit_next w (number a) [] (u.small a f) fit_none;
      }

  pub coded_short : Undo → OnlyShort (coded w fit number meaning)
  coded_short u = record { cut = λ s p few. go s p few (read_by meaning s p w) refl }
    where
      go : (s : List ℕ) (p : ℕ) → length s ≤ 1023 → (t : Told (Reading A)) → read_by meaning s p w ≡ t → Cut t
      go s p few (Accepted a) e = tt
      go s p few (Refused n carried) e =
          let d : Refused n carried ≡ cut_at {A = Reading A} (length s) p w = sym e ∙ refused_short meaning s p w few u.low u.high e in
          cc

module _ (w : ℕ) (low : 1 ≤ w) (high : w ≤ 64) where
  number_undo : Undo w (fits_unsigned w) (λ v. v) (λ v. v)
  number_undo =
      record {
        low = low;
        high = high;
        small = λ a f. ltb-true a (2 ^ w) f;
        means = λ a f. refl;
        reached = λ v h. lt-ltb v (2 ^ w) h;
        again = λ v h. refl;
      }

  pub unsigned_faithful : Faithful (unsigned w)
  unsigned_faithful = coded_faithful w (fits_unsigned w) (λ v. v) (λ v. v) number_undo

  pub unsigned_short : OnlyShort (unsigned w)
  unsigned_short = coded_short w (fits_unsigned w) (λ v. v) (λ v. v) number_undo

  twos_undo : Undo w (fits_twos w) (twos_bits w) (twos_of w)
  twos_undo =
      record {
        low = low;
        high = high;
        small = twos_bits_lt w low;
        means = twos_back w low;
        reached = twos_fits w low;
        again = twos_again w low;
      }

  pub twos_faithful : Faithful (twos w)
  twos_faithful = coded_faithful w (fits_twos w) (twos_bits w) (twos_of w) twos_undo

  pub twos_short : OnlyShort (twos w)
  twos_short = coded_short w (fits_twos w) (twos_bits w) (twos_of w) twos_undo
