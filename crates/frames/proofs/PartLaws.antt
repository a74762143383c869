-- The parts of a checked frame, by the answer of the check. Assumes nothing.
use mathlib.Core.Path.{◌≡◌, refl, sym, ap, ◌∙◌}
use mathlib.Core.List.{List}
use Prim.Native.Nat.{ℕ, ◌+◌, ◌-◌, ◌≤◌, ◌<◌}
use native.Mathlib.Omega.{arith}
use lib.ListN.{length}
use borrow.Author.Tests.{lt-ltb, le-ltb}
use Rattle.bits.specs.Told.{Told, Accepted}
use Rattle.bits.specs.Part.{part, within}
use Rattle.frames.specs.Frame.{data_length, Whole, check, part_of, data_part, inside_part}
use Rattle.std.specs.Prelude.{Result, Ok, Err}
use Rattle.bits.specs.declared.refusal.Refusal.{Refusal}
use Rattle.frames.specs.Answers.{known_frame, told_checked}
use Rattle.frames.specs.declared.frame.Frame.{Frame}
use Rattle.frames.proofs.FrameLaws.{length_small, good_tells}

-- a refusal hands out nothing, at the start
nothing : (i : ℕ) (count : Whole → ℕ) (s : List ℕ) (r : Result Frame Refusal) → ((f : Frame) → r ≡ Ok f → ⊥) → part 0 0 s ≡ part_of i count (told_checked r) s
nothing i count s (Ok f) o = absurd (o f refl)
nothing i count s (Err e) o = refl

module _ (p : ℕ × ℕ) (s : List ℕ) (r : Result Frame Refusal) (q : told_checked r ≡ check s) where
  pub refused_part : (i : ℕ) (count : Whole → ℕ) → ((f : Frame) → r ≡ Ok f → ⊥) → within p (part 0 0 s) ≡ within p (part_of i count (check s) s)
  refused_part i count o = ap (within p) (nothing i count s r o ∙ ap (λ (t : Told Whole). part_of i count t s) q)

  module _ (f : Frame) (g : r ≡ Ok f) where
    accepted : check s ≡ Accepted (known_frame f)
    accepted = sym q ∙ ap told_checked g

    pub frame_fits : (f.length ≤ length s) × (f.«data» + 3 ≤ length s) × (f.«data» ≤ 1023)
    frame_fits =
        let t = good_tells s _ accepted in
        let a : f.length ≡ data_length s + 6 = ap (λ (w : Whole). w.length) t.whole in
        let b : f.«data» ≡ data_length s = ap (λ (w : Whole). w.carried) t.whole in
        (omega arith, omega arith, omega (arith, length_small s))

    -- the part from place i up to place e, where that are as many bytes as the answer says
    pub accepted_part : (i e : ℕ) (count : Whole → ℕ) → e ≡ count (known_frame f) + i
        → within p (part i (e - i) s) ≡ within p (part_of i count (check s) s)
    accepted_part i e count h =
        let d : e - i ≡ count (known_frame f) = omega arith in
        ap (within p) (ap (λ (c : ℕ). part i c s) d ∙ ap (λ (t : Told Whole). part_of i count t s) (sym accepted))

-- ---- the part of bytes that are known to be a frame

module _ (p : ℕ × ℕ) (s : List ℕ) where
  pub inside_few : length s < 6 → within p (part 0 0 s) ≡ within p (inside_part s)
  inside_few h = rw (lt-ltb (length s) 6 h)

  pub inside_is : 6 ≤ length s → within p (part 3 (length s - 3 - 3) s) ≡ within p (inside_part s)
  inside_is h = let e : length s - 3 - 3 ≡ length s - 6 = omega arith in rw (le-ltb (length s) 6 h, e)

-- Of bytes that are a frame and nothing more it is the data that the check hands out.
pub inside_data : (s : List ℕ) (w : Whole) → check s ≡ Accepted w → w.length ≡ length s → inside_part s ≡ data_part s
inside_data s w q l =
    let t = good_tells s w q in
    let a : w.length ≡ data_length s + 6 = ap (λ (w : Whole). w.length) t.whole in
    let b : w.carried ≡ data_length s = ap (λ (w : Whole). w.carried) t.whole in
    let e : length s - 6 ≡ w.carried = omega arith in
    rw (q, le-ltb (length s) 6 (omega (arith, t.fits)), e)
