-- The bias block of message 1230 by its format: it keeps to the laws of formats, and is what the code reads and puts signal by signal. Assumes nothing.
use mathlib.Core.Path.{◌≡◌, refl, ap, ◌∙◌}
use mathlib.Core.List.{List, [], ◌∷◌, ◌++◌, map}
use Prim.Native.Nat.{ℕ}
use native.Mathlib.Omega.{arith}
use lib.ListN.{length}
use lib.IntN.{ℤ}
use Rattle.bits.specs.Told.{Told, Accepted, Refused, and_then}
use Rattle.bits.specs.Field.{Reading, reading, read_twos}
use Rattle.bits.specs.Fields.{Field, bits}
use Rattle.formats.specs.Format.{twos, fields_each, read_each}
use Rattle.formats.proofs.TimesLaws.{fields_none, fields_append, each_none, each_next}
use Rattle.formats.proofs.GoodLaws.{Good, unsigned_good, twos_good, next_good, times_good}
use Rattle.messages.specs.Every.{gather}
use Rattle.messages.specs.Reader.{as_records}
use Rattle.messages.specs.Records.{Rec1230, rec1230, signal_of1230, records1230}
use Rattle.messages.specs.Layout1230.{block1230, mask_signals, masked, of_signal, mask_of}
use Rattle.messages.specs.Write1230.{fields1230}
use Rattle.messages.specs.StepsRead.{before}
use Rattle.messages.specs.StepsRead1230.{biases_at}
use Rattle.messages.specs.StepsWrite1230.{bias_fields1230}

-- what is written reads back, what was read stands there, and nothing but Short is refused
pub block_good : Good block1230
block_good = next_good (unsigned_good 4 (omega arith) (omega arith)) (λ m. times_good (twos_good 16 (omega arith) (omega arith)) (length (masked mask_signals m)))

-- ---- reading: no bias, and one before others

module _ (s : List ℕ) where
  pub biases_none : (p : ℕ) → biases_at s [] p ≡ Accepted (reading [] p)
  unfolding biases_at records1230
  biases_none p = ap (as_records (records1230 [])) (each_none (twos 16) s p)

  pub biases_next : (g : ℕ) (gs : List ℕ) (p : ℕ) → biases_at s (g ∷ gs) p ≡ and_then (read_twos s p 16) (λ z. before (rec1230 g z.value ∷ []) (biases_at s gs z.next))
  unfolding biases_at records1230
  biases_next g gs p = ap (as_records (records1230 (g ∷ gs))) (each_next (twos 16) (length gs) s p) ∙ go (read_twos s p 16)
    where
      rest : (z : ℤ) (t : Told (Reading (List ℤ)))
          → as_records (records1230 (g ∷ gs)) (and_then t (λ zs. Accepted (reading (z ∷ zs.value) zs.next))) ≡ before (rec1230 g z ∷ []) (as_records (records1230 gs) t)
      rest z (Accepted zs) = refl
      rest z (Refused n carried) = refl

      go : (t : Told (Reading ℤ))
          → as_records (records1230 (g ∷ gs)) (and_then t (λ z. and_then (read_each (twos 16) (length gs) s z.next) (λ zs. Accepted (reading (z.value ∷ zs.value) zs.next))))
          ≡ and_then t (λ z. before (rec1230 g z.value ∷ []) (as_records (records1230 gs) (read_each (twos 16) (length gs) s z.next)))
      go (Accepted z) = rest z.value (read_each (twos 16) (length gs) s z.next)
      go (Refused n carried) = refl

-- ---- writing: the mask, and the biases signal by signal

by_signal : (rs : List Rec1230) (gs : List ℕ) → fields_each (twos 16) (gather (λ g. of_signal g rs) gs) ≡ gather (λ g. bias_fields1230 (of_signal g rs)) gs
unfolding gather
by_signal rs [] = fields_none (twos 16)
by_signal rs (g ∷ gs) = fields_append (twos 16) (of_signal g rs) (gather (λ g. of_signal g rs) gs) ∙ ap (λ (fs : List Field). bias_fields1230 (of_signal g rs) ++ fs) (by_signal rs gs)

pub fields_laid : (rs : List Rec1230) → fields1230 rs
    ≡ (bits 4 (mask_of mask_signals (map signal_of1230 rs)) ∷ [])
    ++ (bias_fields1230 (of_signal 2 rs) ++ (bias_fields1230 (of_signal 3 rs) ++ (bias_fields1230 (of_signal 8 rs) ++ (bias_fields1230 (of_signal 9 rs) ++ []))))
unfolding fields1230 gather
fields_laid rs = ap (λ (fs : List Field). bits 4 (mask_of mask_signals (map signal_of1230 rs)) ∷ fs) (by_signal rs mask_signals)
