-- The front of message 1230, as the code reads it: field by field. Assumes nothing.
use mathlib.Core.Path.{◌≡◌, ap}
use mathlib.Core.List.{List}
use Prim.Native.Nat.{ℕ}
use native.Mathlib.Omega.{arith}
use Rattle.bits.specs.Told.{Accepted}
use Rattle.bits.specs.Field.{reading, read_unsigned}
use Rattle.bits.proofs.ReadLaws.{taken}
use Rattle.whole.specs.Headers.{front1230}

module _ (s : List ℕ) where
  module _ {q : ℕ} (number : read_unsigned s 0 12 ≡ Accepted (reading 1230 q)) where
    module _ {a r : ℕ} (station : read_unsigned s q 12 ≡ Accepted (reading a r)) where
      module _ {b t : ℕ} (indicator : read_unsigned s r 1 ≡ Accepted (reading b t)) where
        module _ {c u : ℕ} (reserved : read_unsigned s t 3 ≡ Accepted (reading c u)) where
          pub front_read : Accepted (reading (record { station = a; indicator = b; reserved = c }) 28) ≡ front1230.reads s 0
          front_read =
              let t0 = (taken s 0 12 number).1 in
              let t1 = (taken s q 12 station).1 in
              let t2 = (taken s r 1 indicator).1 in
              let t3 = (taken s t 3 reserved).1 in
              let ends : 28 ≡ u = omega (arith, t0, t1, t2, t3) in
              rw number (rw station (rw indicator (rw reserved (ap (λ (p : ℕ). Accepted (reading (record { station = a; indicator = b; reserved = c }) p)) ends))))
