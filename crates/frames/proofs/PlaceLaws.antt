-- The skipped total is the number of stream places before the held bytes that the whole-stream scan skips. Assumes nothing.
use mathlib.Core.Path.{◌≡◌, refl, sym, ap, ◌∙◌}
use mathlib.Core.List.{List, [], ◌∷◌, ◌++◌, append-nil}
use Prim.Native.Nat.{ℕ, ◌+◌, ◌-◌, ◌≤◌}
use native.Mathlib.Omega.{arith}
use lib.ListN.{length, length-append}
use borrow.Author.Tests.{lt-ltb, le-ltb}
use Rattle.frames.specs.Scan.{Item, Skipped, Framed, Handed, placed, scan, bytes_of, skipped_of, skips_before}
use Rattle.frames.specs.Framing.{Framing, decide, Lawful}
use Rattle.frames.specs.Call.{Scanner}
use Rattle.frames.specs.Offered.{Calls}
use Rattle.frames.proofs.TakenLaws.{taken}

module _ {W K : Type 0} where
  -- items that stand from place e on skip no place before it
  behind : (e m : ℕ) (js : List (Item W K)) → e ≤ m → skips_before e (placed m js) ≡ 0
  behind e m [] l = refl
  behind e m (Skipped w x ∷ js) l = rw (le-ltb m e l) (omega (arith, behind e (m + 1) js (omega arith)))
  behind e m (Framed k f ∷ js) l = omega (arith, behind e (m + length f) js (omega arith))

  -- items up to place e, and then others
  up_to : (e m : ℕ) (is js : List (Item W K)) → m + length (bytes_of is) ≡ e → skips_before e (placed m (is ++ js)) ≡ skipped_of is
  up_to e m [] js h = behind e m js (omega arith)
  up_to e m (Skipped w x ∷ is) js h = rw (lt-ltb m e (omega arith)) (omega (arith, up_to e (m + 1) is js (omega arith)))
  up_to e m (Framed k f ∷ is) js h = omega (arith, up_to e (m + length f) is js (omega (arith, length-append f (bytes_of is))))

-- Over any accepted calls from fresh the skipped total counts the places before the held bytes that the scan of all that was taken skips.
pub skipped_places : {W K : Type 0} (F : Framing W K) (L : Lawful F) {s a : List ℕ} {fs : List (Handed K)} {n : ℕ} {x : Scanner} → Calls F s fs n a x
    → skips_before (length s - x.count) (placed 0 (scan (decide F) s).items) ≡ n
skipped_places F L {s} {a} {fs} {n} {x} r =
    let t = taken F L r in
    let u = ap (scan (decide F)) (sym (append-nil s)) ∙ t.onward [] in
    let e : 0 + length (bytes_of t.items) ≡ length s - x.count = omega (arith, simp length-append at (ap length t.bytes), t.count) in
    ap (λ z. skips_before (length s - x.count) (placed 0 z.items)) u ∙ up_to (length s - x.count) 0 t.items _ e ∙ t.skipped
