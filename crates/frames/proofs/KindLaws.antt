-- A frame that a call hands out is of the kind that its first byte tells, in every mode. Assumes nothing.
use mathlib.Core.Path.{◌≡◌, refl, ap, ◌∙◌, subst}
use mathlib.Core.Bool.{Bool, true, false, cond}
use mathlib.Core.List.{List, ◌∷◌}
use Prim.Native.Nat.{ℕ, zero, suc}
use native.Mathlib.Nat.{not-suc-le-zero}
use native.Mathlib.Omega.{arith}
use lib.ListN.{length, get_or, take}
use lib.Dec.{leb}
use borrow.Author.Tests.{ne_eqb}
use Rattle.bits.specs.Onto.{onto}
use Rattle.frames.specs.Scan.{Take, Wait, Item, Skipped}
use Rattle.frames.specs.Framing.{Framing, decide}
use Rattle.frames.specs.Rtcm.{Why, Kind, Rtcm, Ubx}
use Rattle.frames.specs.Modes.{framing_of}
use Rattle.frames.specs.Feed as fed
use Rattle.frames.specs.Feed.{Next, Held, Found, skipping, next, Fed, past, feed}
use Rattle.frames.specs.Steps.{kind_at}
use Rattle.frames.proofs.FramingLaws.{decides}
use Rattle.frames.proofs.FeedInduction.{along_next, along_feed}
use Rattle.frames.proofs.ModeLaws.{lawful}
use Rattle.frames.proofs.StartLaws.{start_of, mode_kind}

-- the byte that starts a kind tells it
told : (k : Kind) → kind_at (start_of k) ≡ k
told Rtcm = refl
told Ubx = refl

-- and no other byte tells UBX
pub b5_kind : (x : ℕ) → x ≡ 0xB5 → kind_at x ≡ Ubx
b5_kind x e = rw e

pub other_kind : (x : ℕ) → (x ≡ 0xB5 → ⊥) → kind_at x ≡ Rtcm
other_kind x n = rw (ne_eqb x 0xB5 n)

-- what was taken was the verdict
pub was_verdict : {W K : Type 0} (F : Framing W K) (s : List ℕ) (k : K) (n : ℕ) → decide F s ≡ Take k n → F.verdict s ≡ Take k n
was_verdict F s k n e = go (leb (F.need s) (length s)) e
  where
    go : (b : Bool) → cond b (F.verdict s) Wait ≡ Take k n → F.verdict s ≡ Take k n
    go true x = x
    go false x = let z : ◌≡◌ {A = ℕ} 0 1 = cc in absurd (omega arith)

-- of a frame at the front of an output, whatever the output was
abbrev pub KindNext : {W : Type 0} → Next W Kind → Type 0
KindNext (Held is g) = Unit {0}
KindNext (Found is k f g) = (o : List ℕ) → kind_at (get_or (onto f o) 0 0) ≡ k

abbrev pub KindFed : {W : Type 0} → Fed W Kind → Type 0
KindFed (fed.More t is g) = Unit {0}
KindFed (fed.Frame t is k f g) = (o : List ℕ) → kind_at (get_or (onto f o) 0 0) ≡ k

pub kind_skipping : {W : Type 0} (i : Item W Kind) (r : Next W Kind) → KindNext r → KindNext (skipping i r)
kind_skipping i (Held is g) e = tt
kind_skipping i (Found is k f g) e = e

kind_past : (is : List (Item Why Kind)) (r : Fed Why Kind) → KindFed r → KindFed (past is r)
kind_past is (fed.More t js g) e = tt
kind_past is (fed.Frame t js k f g) e = e

module _ (mode : ℕ) where
  pub at_front : (k : Kind) (n x : ℕ) (xs : List ℕ) → decide (framing_of mode) (x ∷ xs) ≡ Take k n → (o : List ℕ) → kind_at (get_or (onto (take n (x ∷ xs)) o) 0 0) ≡ k
  at_front k zero x xs e o = absurd (not-suc-le-zero ((decides (framing_of mode) (lawful mode)).whole (x ∷ xs) k 0 e).0)
  at_front k (suc n) x xs e o =
      ap kind_at (mode_kind (x ∷ xs) mode k (suc n) (was_verdict (framing_of mode) (x ∷ xs) k (suc n) e)) ∙ told k

  kind_next : (h : List ℕ) → KindNext (next (decide (framing_of mode)) h)
  kind_next h = along_next (decide (framing_of mode)) (λ h r. KindNext r) tt (λ w x xs r e ih. kind_skipping (Skipped w x) r ih) (λ k n x xs e. at_front k n x xs e) (λ x xs e. tt) h

  -- A FRAME'S FIRST BYTE tells its kind.
  pub kind_fed : (p h : List ℕ) → KindFed (feed (decide (framing_of mode)) h p)
  kind_fed p h =
      along_feed (decide (framing_of mode)) (λ h p r. KindFed r)
      (λ h g is e. tt)
      (λ h p f g is k e. subst KindNext e (kind_next h))
      (λ h g is x p r e ih. kind_past is r ih)
      p h
