-- A frame that the scan hands out at a place: it was decided there, has at most 1,029 bytes, and its first byte tells its kind. Assumes nothing.
use mathlib.Core.Path.{◌≡◌, sym, ap, ◌∙◌}
use mathlib.Core.Bool.{Bool, true, false, cond}
use mathlib.Core.List.{List, [], ◌∷◌}
use Prim.Native.Nat.{ℕ, zero, suc, ◌≤◌}
use native.Mathlib.Nat.{not-suc-le-zero, add-zero}
use native.Mathlib.Omega.{arith}
use lib.ListN.{get_or, drop}
use lib.Seq.{get_or-drop}
use lib.Dec.{eqb}
use borrow.Author.Tests.{ne_eqb}
use Rattle.frames.specs.Scan.{Take}
use Rattle.frames.specs.Framing.{Framing, Lawful, decide}
use Rattle.frames.specs.Rtcm.{Kind, Rtcm, Ubx}
use Rattle.frames.specs.Modes.{framing_of}
use Rattle.frames.specs.Steps.{kind_at}
use Rattle.frames.proofs.FramingLaws.{decides}
use Rattle.frames.proofs.ModeLaws.{lawful}
use Rattle.frames.proofs.KindLaws.{was_verdict, at_front}
use Rattle.batch.specs.Batch.{kind_number}
use Rattle.batch.specs.Steps.{kind_number_at}

-- A FRAME has at most 1,029 bytes.
pub not_longer : {W K : Type 0} (F : Framing W K) → Lawful F → (s : List ℕ) (k : K) (n : ℕ) → decide F s ≡ Take k n → n ≤ 1029
not_longer F L s k n e = omega (arith, L.taken s k n (was_verdict F s k n e), L.most s)

-- ---- kinds

told : (k : Kind) (x : ℕ) → kind_at x ≡ k → kind_number_at x ≡ kind_number k
told k x e = go (eqb x 0xB5) e
  where
    go : (b : Bool) → cond b Ubx Rtcm ≡ k → cond b 1 0 ≡ kind_number k
    go true u = ap kind_number u
    go false u = ap kind_number u

-- THE FIRST BYTE of a frame tells the number of its kind.
pub kind_told : (mode : ℕ) (t : List ℕ) (k : Kind) (n : ℕ) → decide (framing_of mode) t ≡ Take k n → kind_number_at (get_or t 0 0) ≡ kind_number k
kind_told mode [] k n e = let w = (decides (framing_of mode) (lawful mode)).whole [] k n e in absurd (omega (arith, w.0, w.1))
kind_told mode (x ∷ xs) k zero e = absurd (not-suc-le-zero ((decides (framing_of mode) (lawful mode)).whole (x ∷ xs) k 0 e).0)
kind_told mode (x ∷ xs) k (suc n) e = told k x (at_front mode k (suc n) x xs e [])

pub kind_at_lem : (mode : ℕ) (s : List ℕ) (p : ℕ) (k : Kind) (n : ℕ) → decide (framing_of mode) (drop p s) ≡ Take k n → kind_number_at (get_or s p 0) ≡ kind_number k
kind_at_lem mode s p k n e = ap kind_number_at (sym (get_or-drop p s 0 0 ∙ ap (λ i. get_or s i 0) (add-zero p))) ∙ kind_told mode (drop p s) k n e

pub b5_number : (x : ℕ) → x ≡ 0xB5 → kind_number_at x ≡ 1
b5_number x e = rw e

pub other_number : (x : ℕ) → (x ≡ 0xB5 → ⊥) → kind_number_at x ≡ 0
other_number x n = rw (ne_eqb x 0xB5 n)
