-- The law of joining: a stream may be scanned in two parts. No byte is lost on the way, and what is held waits. Assumes nothing.
use mathlib.Core.Path.{◌≡◌, refl, ap}
use mathlib.Core.List.{List, [], ◌∷◌, ◌++◌, append_assoc}
use Prim.Native.Nat.{ℕ, zero, suc, ◌≤◌, pred}
use native.Mathlib.Nat.{le_of_suc-le-suc, not-suc-le-zero}
use native.Mathlib.Omega.{arith}
use lib.ListN.{length, take, drop, take-append-drop}
use lib.Seq.{take-append-le}
use Rattle.frames.specs.Scan.{Decision, Skip, Take, Wait, Skipped, Framed, holding, after, step, scan_past, scan, bytes_of}
use Rattle.frames.proofs.FramingLaws.{Whole, Decides}

module _ {W K : Type 0} (d : List ℕ → Decision W K) where
  module _ (D : Decides d) where
    join_step : (x : ℕ) (xs b : List ℕ)
        → ((m : ℕ) → m ≤ length xs → scan_past d m (xs ++ b) ≡ after (scan_past d m xs).items (scan d ((scan_past d m xs).held ++ b)))
        → (q : Decision W K) → d (x ∷ xs) ≡ q
        → step (d (x ∷ (xs ++ b))) x (xs ++ b) (λ n. scan_past d n (xs ++ b))
        ≡ after (step q x xs (λ n. scan_past d n xs)).items (scan d ((step q x xs (λ n. scan_past d n xs)).held ++ b))
    join_step x xs b ih (Skip w) e = rw (D.skips (x ∷ xs) b w e) (ap (after (Skipped w x ∷ [])) (ih 0 (omega arith)))
    join_step x xs b ih (Take k n) e =
        let p : (1 ≤ n) × (n ≤ suc (length xs)) = D.whole (x ∷ xs) k n e in
        rw (D.takes (x ∷ xs) b k n e, take-append-le n (x ∷ xs) b p.1) (ap (after (Framed k (take n (x ∷ xs)) ∷ [])) (ih (pred n) (omega arith)))
    join_step x xs b ih Wait e = refl

    join_past : (m : ℕ) (a b : List ℕ) → m ≤ length a → scan_past d m (a ++ b) ≡ after (scan_past d m a).items (scan d ((scan_past d m a).held ++ b))
    join_past zero [] b h = refl
    join_past (suc m) [] b h = absurd (not-suc-le-zero h)
    join_past (suc m) (x ∷ xs) b h = join_past m xs b (le_of_suc-le-suc h)
    join_past zero (x ∷ xs) b h = join_step x xs b (λ m h'. join_past m xs b h') (d (x ∷ xs)) refl

    -- THE LAW OF JOINING. The scan of a with b behind is the scan of a, and then that of what it holds with b behind.
    pub join : (a b : List ℕ) → scan d (a ++ b) ≡ after (scan d a).items (scan d ((scan d a).held ++ b))
    join a b = join_past 0 a b (omega arith)

  module _ (whole : Whole d) where
    whole_step : (x : ℕ) (xs : List ℕ)
        → ((m : ℕ) → m ≤ length xs → bytes_of (scan_past d m xs).items ++ (scan_past d m xs).held ≡ drop m xs)
        → (q : Decision W K) → d (x ∷ xs) ≡ q
        → bytes_of (step q x xs (λ n. scan_past d n xs)).items ++ (step q x xs (λ n. scan_past d n xs)).held ≡ x ∷ xs
    whole_step x xs ih (Skip w) e = ap (λ l. x ∷ l) (ih 0 (omega arith))
    whole_step x xs ih (Take k zero) e = absurd (not-suc-le-zero (whole (x ∷ xs) k 0 e).0)
    whole_step x xs ih (Take k (suc n)) e =
        let p : (1 ≤ suc n) × (suc n ≤ suc (length xs)) = whole (x ∷ xs) k (suc n) e in
        rw (append_assoc, ih n (le_of_suc-le-suc p.1)) (take-append-drop (suc n) (x ∷ xs))
    whole_step x xs ih Wait e = refl

    whole_past : (m : ℕ) (s : List ℕ) → m ≤ length s → bytes_of (scan_past d m s).items ++ (scan_past d m s).held ≡ drop m s
    whole_past zero [] h = refl
    whole_past (suc m) [] h = refl
    whole_past (suc m) (x ∷ xs) h = whole_past m xs (le_of_suc-le-suc h)
    whole_past zero (x ∷ xs) h = whole_step x xs (λ m h'. whole_past m xs h') (d (x ∷ xs)) refl

    -- Every byte of a stream is in one item or held, in order.
    pub every_byte : (s : List ℕ) → bytes_of (scan d s).items ++ (scan d s).held ≡ s
    every_byte s = whole_past 0 s (omega arith)

  -- bytes that give nothing by themselves
  abbrev Waits : List ℕ → Type 0
  Waits h = scan d h ≡ holding h

  held_step : (x : ℕ) (xs : List ℕ) → ((m : ℕ) → Waits (scan_past d m xs).held) → (q : Decision W K) → d (x ∷ xs) ≡ q → Waits (step q x xs (λ n. scan_past d n xs)).held
  held_step x xs ih (Skip w) e = ih 0
  held_step x xs ih (Take k n) e = ih (pred n)
  held_step x xs ih Wait e = rw e

  held_past : (m : ℕ) (s : List ℕ) → Waits (scan_past d m s).held
  held_past zero [] = refl
  held_past (suc m) [] = refl
  held_past (suc m) (x ∷ xs) = held_past m xs
  held_past zero (x ∷ xs) = held_step x xs (λ m. held_past m xs) (d (x ∷ xs)) refl

  -- what a scan holds waits
  pub held_waits : (s : List ℕ) → scan d (scan d s).held ≡ holding (scan d s).held
  held_waits s = held_past 0 s
