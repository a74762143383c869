-- The front of the message, as the code reads it: field by field. Assumes nothing.
use mathlib.Core.Path.{◌≡◌, refl, ap, ◌∙◌}
use mathlib.Core.List.{List}
use Prim.Native.Nat.{ℕ, ◌*◌, ◌≤◌}
use native.Mathlib.Omega.{arith}
use lib.ListN.{length}
use Rattle.bits.specs.Told.{Told, Accepted, Refused, and_then}
use Rattle.bits.specs.Field.{Reading, reading, read_unsigned}
use Rattle.bits.proofs.ReadLaws.{taken}
use Rattle.formats.specs.Format.{times}
use Rattle.observations.specs.declared.answer.Observation.{Observation}
use Rattle.observations.specs.Message1001.{Message, message, message1001, observation1001}

module _ (s : List ℕ) where
  module _ {q : ℕ} (number : read_unsigned s 0 12 ≡ Accepted (reading 1001 q)) where
    module _ {a r : ℕ} (station : read_unsigned s q 12 ≡ Accepted (reading a r)) where
      module _ {b t : ℕ} (epoch : read_unsigned s r 30 ≡ Accepted (reading b t)) where
        module _ {c u : ℕ} (synchronous : read_unsigned s t 1 ≡ Accepted (reading c u)) where
          module _ {k v : ℕ} (count : read_unsigned s u 5 ≡ Accepted (reading k v)) where
            module _ {d w : ℕ} (smoothing : read_unsigned s v 1 ≡ Accepted (reading d w)) where
              -- what is left are the observations
              module _ {i x : ℕ} (interval : read_unsigned s w 3 ≡ Accepted (reading i x)) where
                abbrev behind : Told (Reading (List Observation)) → Told (Reading Message)
                behind t = and_then t (λ os. Accepted (reading (message (record { station = a; epoch = b; synchronous = c; smoothing = d; interval = i }) os.value) os.next))

                pub front_read : message1001.reads s 0 ≡ behind ((times k observation1001).reads s x)
                front_read = go ((times k observation1001).reads s x) refl
                  where
                    go : (t : Told (Reading (List Observation))) → (times k observation1001).reads s x ≡ t → message1001.reads s 0 ≡ behind ((times k observation1001).reads s x)
                    go (Accepted os) e = rw number (rw station (rw epoch (rw synchronous (rw count (rw smoothing (rw interval (rw e)))))))
                    go (Refused n carried) e = rw number (rw station (rw epoch (rw synchronous (rw count (rw smoothing (rw interval (rw e)))))))

                -- the front ends at bit 64
                pub front_begun : (message1001.reads s 0 ≡ behind ((times k observation1001).reads s 64)) × (k ≤ 31) × (64 ≤ length s * 8)
                front_begun =
                    let t0 = taken s 0 12 number in
                    let t1 = taken s q 12 station in
                    let t2 = taken s r 30 epoch in
                    let t3 = taken s t 1 synchronous in
                    let t4 = taken s u 5 count in
                    let t5 = taken s v 1 smoothing in
                    let t6 = taken s w 3 interval in
                    let e : x ≡ 64 = omega (arith, t0.1, t1.1, t2.1, t3.1, t4.1, t5.1, t6.1) in
                    (front_read ∙ ap (λ (p : ℕ). behind ((times k observation1001).reads s p)) e, omega (arith, t4.0), omega (arith, e, t6.2))
