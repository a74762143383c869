-- One observation, as the code reads it: field by field. Assumes nothing.
use mathlib.Core.Path.{◌≡◌}
use mathlib.Core.List.{List}
use Prim.Native.Nat.{ℕ}
use lib.IntN.{ℤ}
use mir.Syntax.{w32, w64}
use mir.Val.{to_z, of_z}
use Rattle.bits.specs.Told.{Accepted}
use Rattle.bits.specs.Field.{reading, read_unsigned, read_twos}
use Rattle.observations.proofs.TakeLaws.{phase_same}
use Rattle.observations.specs.Message1001.{observation1001, to_observation}

module _ (s : List ℕ) (p : ℕ) where
  module _ {a q : ℕ} (satellite : read_unsigned s p 6 ≡ Accepted (reading a q)) where
    module _ {b r : ℕ} (code : read_unsigned s q 1 ≡ Accepted (reading b r)) where
      module _ {c t : ℕ} (pseudorange : read_unsigned s r 24 ≡ Accepted (reading c t)) where
        module _ {z : ℤ} {u : ℕ} (phase : read_twos s t 20 ≡ Accepted (reading z u)) where
          -- the phase as the code hands it on
          pub row_read : {d v : ℕ} → read_unsigned s u 7 ≡ Accepted (reading d v)
              → Accepted (reading (to_observation (a, (b, (c, (to_z w32 (of_z w32 (to_z w64 (of_z w64 z))), d))))) v) ≡ observation1001.reads s p
          row_read e = rw satellite (rw code (rw pseudorange (rw phase (rw (e, phase_same s t phase)))))
