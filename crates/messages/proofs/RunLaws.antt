-- A run of records of one width: how many are there and where they end need no field to be read. Assumes nothing.
use mathlib.Core.Path.{◌≡◌, refl, sym, ap, ap₂, ◌∙◌}
use mathlib.Core.List.{List, [], ◌∷◌}
use Prim.Native.Nat.{ℕ, zero, suc, ◌+◌, ◌*◌, ◌≤◌, ◌<◌}
use native.Mathlib.Nat.{add-zero, zero-mul, suc-mul}
use native.Mathlib.Decide.{dec_lt}
use native.Mathlib.Omega.{arith}
use Rattle.bits.specs.Told.{Told, Accepted, Refused}
use Rattle.bits.specs.Field.{Reading, reading}
use Rattle.messages.specs.StepsRead.{before, many, counts}
use Rattle.messages.specs.Records.{counted}
use Rattle.messages.proofs.PassLaws.{chain, counts_before}

module _ {A : Type 0} (w most : ℕ) (cut : ℕ → List ℕ) where
  -- f reads one record of w bits where it ends by bit `most`, and else is cut short and carries what `cut` tells
  pub record Single (f : ℕ → Told (Reading (List A))) : Type 0 where
    pub record_of : ℕ → A
    pub fits : (p : ℕ) → p + w ≤ most → f p ≡ Accepted (reading (record_of p ∷ []) (p + w))
    pub cuts : (p : ℕ) → most < p + w → f p ≡ Refused 1 (cut p)

  -- a record that is accepted lies within
  pub single_within : {f : ℕ → Told (Reading (List A))} → Single f → (p : ℕ) {r : Reading (List A)} → f p ≡ Accepted r → p + w ≤ most
  single_within {f} o p {r} e = go (dec_lt most (p + w))
    where
      go : Dec (most < p + w) → p + w ≤ most
      go (yes h) = let d = o.cuts p h in let z : ◌≡◌ {A = ℕ} 0 1 = cc in absurd (omega arith)
      go (no h) = omega arith

  -- n such records, one behind the other
  pub data Run : ℕ → (ℕ → Told (Reading (List A))) → Type 0 where
    none : {run : ℕ → Told (Reading (List A))} → ((p : ℕ) → run p ≡ Accepted (reading [] p)) → Run 0 run
    more : {n : ℕ} {f rest run : ℕ → Told (Reading (List A))} → Single f → ((p : ℕ) → run p ≡ chain (f p) rest) → Run n rest → Run (suc n) run

  pub many_run : {f : ℕ → Told (Reading (List A))} → Single f → (n : ℕ) → Run n (many f n)
  unfolding many
  many_run o zero = none (λ p. refl)
  many_run o (suc n) = more o (λ p. refl) (many_run o n)

  -- all of it is there
  pub run_fits : {n : ℕ} {run : ℕ → Told (Reading (List A))} → Run n run → (i p : ℕ) → p + n * w ≤ most → Accepted (counted (i + n) (p + n * w)) ≡ counts i (run p)
  unfolding counts
  run_fits (none e) i p h = simp (e p, zero-mul, add-zero)
  run_fits (more {n} {f} {rest} {run} o e r) i p h =
      let a = suc-mul n w in
      let g = o.fits p (omega arith) in
      let t = run_fits r (i + 1) (p + w) (omega arith) in
      let b : i + suc n ≡ i + 1 + n = omega arith in
      let d : p + suc n * w ≡ p + w + n * w = omega arith in
      ap₂ (λ (x y : ℕ). Accepted (counted x y)) b d
      ∙ t
      ∙ sym (ap (counts i) (e p ∙ ap (λ (u : Told (Reading (List A))). chain u rest) g) ∙ counts_before i (o.record_of p ∷ []) (rest (p + w)))

  -- m of it are there, and the next is cut short
  pub run_cut : {n : ℕ} {run : ℕ → Told (Reading (List A))} → Run n run → (m p : ℕ) → m < n → p + m * w ≤ most → most < p + m * w + w → run p ≡ Refused 1 (cut (p + m * w))
  run_cut (none e) m p l h c = absurd (omega arith)
  run_cut (more {n} {f} {rest} {run} o e r) zero p l h c =
      let z = zero-mul w in
      let g = o.cuts p (omega arith) in
      e p ∙ ap (λ (u : Told (Reading (List A))). chain u rest) g ∙ ap (λ (x : ℕ). Refused 1 (cut x)) (omega arith)
  run_cut (more {n} {f} {rest} {run} o e r) (suc m) p l h c =
      let a = suc-mul m w in
      let g = o.fits p (omega arith) in
      let t = run_cut r m (p + w) (omega arith) (omega arith) (omega arith) in
      e p ∙ ap (λ (u : Told (Reading (List A))). chain u rest) g
      ∙ ap (before (o.record_of p ∷ [])) t ∙ ap (λ (x : ℕ). Refused 1 (cut x)) (omega arith)
