-- The front of message 1059, as the code reads it: field by field. Assumes nothing.
use mathlib.Core.Path.{◌≡◌, ap}
use mathlib.Core.List.{List}
use Prim.Native.Nat.{ℕ}
use native.Mathlib.Omega.{arith}
use Rattle.bits.specs.Told.{Accepted}
use Rattle.bits.specs.Field.{reading, read_unsigned}
use Rattle.bits.proofs.ReadLaws.{taken}
use Rattle.whole.specs.Headers.{front1059}

module _ (s : List ℕ) where
  module _ {q : ℕ} (number : read_unsigned s 0 12 ≡ Accepted (reading 1059 q)) where
    module _ {a r : ℕ} (epoch : read_unsigned s q 20 ≡ Accepted (reading a r)) where
      module _ {b t : ℕ} (interval : read_unsigned s r 4 ≡ Accepted (reading b t)) where
        module _ {c u : ℕ} (multiple : read_unsigned s t 1 ≡ Accepted (reading c u)) where
          module _ {d v : ℕ} (iod : read_unsigned s u 4 ≡ Accepted (reading d v)) where
            module _ {e w : ℕ} (provider : read_unsigned s v 16 ≡ Accepted (reading e w)) where
              module _ {f x : ℕ} (solution : read_unsigned s w 4 ≡ Accepted (reading f x)) where
                pub front_read : Accepted (reading (record { epoch = a; interval = b; multiple = c; iod = d; provider = e; solution = f }) 61) ≡ front1059.reads s 0
                front_read =
                    let t0 = (taken s 0 12 number).1 in
                    let t1 = (taken s q 20 epoch).1 in
                    let t2 = (taken s r 4 interval).1 in
                    let t3 = (taken s t 1 multiple).1 in
                    let t4 = (taken s u 4 iod).1 in
                    let t5 = (taken s v 16 provider).1 in
                    let t6 = (taken s w 4 solution).1 in
                    let ends : 61 ≡ x = omega (arith, t0, t1, t2, t3, t4, t5, t6) in
                    rw number (rw epoch (rw interval (rw multiple (rw iod (rw provider (rw solution (ap (λ (p : ℕ). Accepted (reading (record { epoch = a; interval = b; multiple = c; iod = d; provider = e; solution = f }) p)) ends)))))))
