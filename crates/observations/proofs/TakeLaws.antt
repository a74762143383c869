-- A phase range as the code takes it out of the data: it fits a narrower number. Assumes nothing.
use mathlib.Core.Path.{◌≡◌, sym, ap, ◌∙◌}
use mathlib.Core.List.{List}
use Prim.Native.Nat.{ℕ, ◌^◌, ◌<◌}
use native.Mathlib.Omega.{arith}
use borrow.Author.Tests.{ltb-true}
use lib.IntN.{ℤ}
use lib.Signed.{mag}
use mir.Syntax.{w32, w64}
use mir.Val.{SFits, to_z, of_z}
use mir.ValLaws.{to_z-of_z}
use Rattle.bits.specs.Told.{Accepted}
use Rattle.bits.specs.Field.{field, Reading, reading, read_twos}
use Rattle.bits.specs.Signed.{twos_of, fits_twos}
use Rattle.bits.proofs.FieldLaws.{field_lt}
use Rattle.bits.proofs.SignedLaws.{fits_twos_lem, twos_fits}
use Rattle.bits.proofs.ReadLaws.{read_tells}

-- a phase range of 20 bits fits 32 and 64
phase_small : (s : List ℕ) (p : ℕ) {z : ℤ} {q : ℕ} → read_twos s p 20 ≡ Accepted (reading z q) → mag z < 2 ^ 19
phase_small s p {z} e =
    let t = read_tells (twos_of 20) s p 20 e in
    let d : z ≡ twos_of 20 (field s p 20) = ap (λ (r : Reading ℤ). r.value) t.is in
    ltb-true (mag z) (2 ^ 19) (sym (fits_twos_lem 20 z) ∙ ap (fits_twos 20) d ∙ twos_fits 20 t.low (field s p 20) (field_lt s p 20))

-- so that the cast from 64 bits loses nothing
pub phase_narrow : (s : List ℕ) (p : ℕ) {z : ℤ} {q : ℕ} → read_twos s p 20 ≡ Accepted (reading z q) → SFits w32 (to_z w64 (of_z w64 z))
phase_narrow s p {z} e =
    let m = phase_small s p e in
    let f : SFits w64 z = record { sfits = omega (arith, m) } in
    rw (to_z-of_z w64 z f) (record { sfits = omega (arith, m) })

-- and keeps the number
pub phase_same : (s : List ℕ) (p : ℕ) {z : ℤ} {q : ℕ} → read_twos s p 20 ≡ Accepted (reading z q) → to_z w32 (of_z w32 (to_z w64 (of_z w64 z))) ≡ z
phase_same s p {z} e =
    let m = phase_small s p e in
    let f : SFits w64 z = record { sfits = omega (arith, m) } in
    let g : SFits w32 z = record { sfits = omega (arith, m) } in
    rw (to_z-of_z w64 z f) (to_z-of_z w32 z g)
