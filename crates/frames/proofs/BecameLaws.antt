-- A byte of a recording is in a frame, skipped or held, as was decided at its place, in a scan by any framing and so in every mode. Assumes nothing.
use mathlib.Core.Path.{◌≡◌, refl}
use mathlib.Core.Bool.{cond}
use mathlib.Core.List.{List, [], ◌∷◌}
use Prim.Native.Nat.{ℕ, zero, suc, ◌+◌, ◌-◌, ◌≤◌, ◌<◌}
use native.Mathlib.Nat.{not-suc-le-zero}
use native.Mathlib.Omega.{arith}
use native.Mathlib.Decide.{ℕ_discrete, dec_lt}
use lib.ListN.{length, take}
use lib.Seq.{length-take-le}
use lib.Dec.{ltb, eqb}
use borrow.Author.Tests.{lt-ltb, le-ltb, eq-eqb, ne_eqb}
use Rattle.frames.specs.Scan.{Decision, Skip, Take, Wait, step, scan_past, scan}
use Rattle.frames.specs.Became.{Became, In, Dropped, Waiting, became_in, Decided}
use Rattle.frames.specs.Framing.{decide}
use Rattle.frames.specs.Modes.{framing_of}
use Rattle.frames.proofs.FramingLaws.{Whole, decides}
use Rattle.frames.proofs.ModeLaws.{lawful}

module _ {W K : Type 0} (d : List ℕ → Decision W K) (whole : Whole d) where
  -- one byte further on
  onward : (n : ℕ) (x : ℕ) (xs : List ℕ) (q : ℕ) → n + 1 ≤ q → (r : Became W K) → Decided d (n + 1) xs q r → Decided d n (x ∷ xs) q r
  onward n x xs q h (In p k l) (a, b, c, e) =
      let z : p - n ≡ suc (p - (n + 1)) = omega arith in
      (omega arith, b, c, rw z e)
  onward n x xs q h (Dropped w) e = let z : q - n ≡ suc (q - (n + 1)) = omega arith in rw z e
  onward n x xs q h (Waiting p) (a, b, e) = let z : p - n ≡ suc (p - (n + 1)) = omega arith in (omega arith, b, rw z e)

  abbrev From : ℕ → List ℕ → Type 0
  From m s = (n q : ℕ) → m ≤ length s → n + m ≤ q → q < n + length s → Decided d n s q (became_in (n + m) (scan_past d m s).items q)

  at_step : (x : ℕ) (xs : List ℕ) → ((m : ℕ) → From m xs) → (c : Decision W K) → d (x ∷ xs) ≡ c
      → (n q : ℕ) → n ≤ q → q < n + suc (length xs) → Decided d n (x ∷ xs) q (became_in n (step c x xs (λ m. scan_past d m xs)).items q)
  at_step x xs ih (Skip w) e n q h l = go (ℕ_discrete q n)
    where
      go : Dec (q ≡ n) → Decided d n (x ∷ xs) q (cond (eqb q n) (Dropped w) (became_in (n + 1) (scan_past d 0 xs).items q))
      go (yes c) = let z : q - n ≡ 0 = omega arith in rw (eq-eqb q n c, z) e
      go (no c) =
          let i : Decided d (n + 1) xs q (became_in (n + 1 + 0) (scan_past d 0 xs).items q) = ih 0 (n + 1) q (omega arith) (omega arith) (omega arith) in
          let z : n + 1 + 0 ≡ n + 1 = omega arith in
          rw (ne_eqb q n c) (onward n x xs q (omega arith) (became_in (n + 1) (scan_past d 0 xs).items q) (rw z at i))
  at_step x xs ih (Take k zero) e n q h l = absurd (not-suc-le-zero (whole (x ∷ xs) k 0 e).0)
  at_step x xs ih (Take k (suc m)) e n q h l = go (dec_lt q (n + suc m))
    where
      fits : (1 ≤ suc m) × (suc m ≤ suc (length xs))
      fits = whole (x ∷ xs) k (suc m) e

      size : length (take (suc m) (x ∷ xs)) ≡ suc m
      size = length-take-le (suc m) (x ∷ xs) fits.1

      go : Dec (q < n + suc m)
          → Decided d n (x ∷ xs) q (cond (ltb q (n + length (take (suc m) (x ∷ xs)))) (In n k (length (take (suc m) (x ∷ xs)))) (became_in (n + length (take (suc m) (x ∷ xs))) (scan_past d m xs).items q))
      go (yes c) = let z : n - n ≡ 0 = omega arith in rw (size, lt-ltb q (n + suc m) c) (omega arith, h, c, rw z e)
      go (no c) =
          let i : Decided d (n + 1) xs q (became_in (n + 1 + m) (scan_past d m xs).items q) = ih m (n + 1) q (omega (arith, fits.1)) (omega arith) (omega arith) in
          let z : n + 1 + m ≡ n + suc m = omega arith in
          rw (size, le-ltb q (n + suc m) (omega arith)) (onward n x xs q (omega arith) (became_in (n + suc m) (scan_past d m xs).items q) (rw z at i))
  at_step x xs ih Wait e n q h l = let z : n - n ≡ 0 = omega arith in (omega arith, h, rw z e)

  from : (m : ℕ) (s : List ℕ) → From m s
  from zero [] n q a b c = absurd (omega arith)
  from (suc m) [] n q a b c = absurd (omega arith)
  from (suc m) (x ∷ xs) n q a b c =
      let i : Decided d (n + 1) xs q (became_in (n + 1 + m) (scan_past d m xs).items q) = from m xs (n + 1) q (omega arith) (omega arith) (omega arith) in
      let z : n + 1 + m ≡ n + suc m = omega arith in
      onward n x xs q (omega arith) (became_in (n + suc m) (scan_past d m xs).items q) (rw z at i)
  from zero (x ∷ xs) n q a b c =
      let z : n + 0 ≡ n = omega arith in
      rw z (at_step x xs (λ m. from m xs) (d (x ∷ xs)) refl n q (omega arith) (omega arith))

  -- EACH BYTE is in a frame, skipped or held, exactly one of them, as was decided at its place.
  pub became : (s : List ℕ) (q : ℕ) → q < length s → Decided d 0 s q (became_in 0 (scan d s).items q)
  became s q l = from 0 s 0 q (omega arith) (omega arith) (omega arith)

-- AND SO IN EVERY MODE.
pub became_in_lem : (mode : ℕ) (s : List ℕ) (q : ℕ) → q < length s → Decided (decide (framing_of mode)) 0 s q (became_in 0 (scan (decide (framing_of mode)) s).items q)
became_in_lem mode = became (decide (framing_of mode)) (decides (framing_of mode) (lawful mode)).whole
