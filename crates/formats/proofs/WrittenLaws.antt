-- What writers of records refuse first, record by record, and a run of fields that is put or lacks room. Assumes nothing.
use mathlib.Core.Path.{◌≡◌, refl, sym, ap, ◌∙◌}
use mathlib.Core.Bool.{Bool, true, false, cond}
use mathlib.Core.List.{List, [], ◌∷◌}
use Prim.Native.Nat.{ℕ, suc, ◌+◌, ◌*◌, ◌≤◌, ◌<◌}
use native.Mathlib.Decide.{dec_lt}
use native.Mathlib.Omega.{arith}
use borrow.Author.Tests.{lt-ltb, le-ltb}
use lib.Dec.{ltb}
use lib.ListN.{length}
use Rattle.bits.specs.Told.{Told, Accepted, Refused, and_then, room}
use Rattle.bits.specs.Outcome.{Outcome, outcome, refusing}
use Rattle.bits.specs.Fields.{Field, total, put_all}
use Rattle.bits.proofs.OutcomeLaws.{Keeps, accepted_keeps, refused_keeps}
use Rattle.formats.proofs.NextLaws.{accepted_same}
use Rattle.formats.specs.Written.{fine, first_fault, put_run}

module _ {A : Type 0} (fault : ℕ → A → Told Unit) (i : ℕ) where
  pub fault_none : first_fault fault i [] ≡ fine
  unfolding first_fault
  fault_none = refl

  module _ (r : A) (rs : List A) where
    pub fault_next : first_fault fault i (r ∷ rs) ≡ and_then (fault i r) (λ u. first_fault fault (suc i) rs)
    unfolding first_fault
    fault_next = refl

    pub fault_later : fault i r ≡ fine → first_fault fault i (r ∷ rs) ≡ first_fault fault (suc i) rs
    unfolding first_fault
    fault_later e = rw e

    pub fault_here : {n : ℕ} {carried : List ℕ} → fault i r ≡ Refused n carried → first_fault fault i (r ∷ rs) ≡ Refused n carried
    unfolding first_fault
    fault_here e = rw e

    -- no fault of any is no fault of the first and none of the rest
    pub faultless : first_fault fault i (r ∷ rs) ≡ fine → (fault i r ≡ fine) × (first_fault fault (suc i) rs ≡ fine)
    unfolding first_fault
    faultless e = go (fault i r) refl e
      where
        go : (t : Told Unit) → fault i r ≡ t → and_then t (λ u. first_fault fault (suc i) rs) ≡ fine → (fault i r ≡ fine) × (first_fault fault (suc i) rs ≡ fine)
        go (Accepted u) d e = (d, e)
        go (Refused n carried) d e = let z : ◌≡◌ {A = ℕ} 0 1 = cc in absurd (omega arith)

module _ (s : List ℕ) (p : ℕ) (fs : List Field) where
  pub run_room : length s * 8 < p + total fs → put_run s p fs ≡ outcome (room (total fs)) s
  unfolding put_run
  run_room h = rw (lt-ltb _ _ h)

  pub run_put : p + total fs ≤ length s * 8 → put_run s p fs ≡ outcome (Accepted (p + total fs)) (put_all s p fs)
  unfolding put_run
  run_put h = rw (le-ltb _ _ h)

  -- a run that was put: where it ends, and the data with it
  pub record Put (q : ℕ) (t : List ℕ) : Type 0 where
    pub within : p + total fs ≤ length s * 8
    pub end : q ≡ p + total fs
    pub left : t ≡ put_all s p fs

  pub run_accepted : {q : ℕ} {t : List ℕ} → put_run s p fs ≡ outcome (Accepted q) t → Put q t
  run_accepted {q} {t} e = go (dec_lt (length s * 8) (p + total fs))
    where
      go : Dec (length s * 8 < p + total fs) → Put q t
      go (yes h) = let d = ap (λ o. o.answer) (sym (run_room h) ∙ e) in let z : ◌≡◌ {A = ℕ} 0 1 = cc in absurd (omega arith)
      go (no h) =
          let l : p + total fs ≤ length s * 8 = omega (arith, h) in
          let d = sym e ∙ run_put l in
          record { within = l; end = accepted_same (ap (λ o. o.answer) d); left = ap (λ o. o.areas) d }

  -- a run that lacks room leaves the data as they came
  pub run_keeps : Keeps s (put_run s p fs)
  unfolding put_run
  run_keeps = go (ltb (length s * 8) (p + total fs))
    where
      go : (b : Bool) → Keeps s (cond b (outcome (room (total fs)) s) (outcome (Accepted (p + total fs)) (put_all s p fs)))
      go true = refused_keeps s 8 (total fs ∷ [])
      go false = accepted_keeps s (p + total fs) (put_all s p fs)

-- ---- what was accepted

-- nothing before it was refused
pub onward_accepted : {A B S : Type 0} (before : S) (told : Told A) (onward : A → Outcome B S) {b : B} {s : S} → refusing before told onward ≡ outcome (Accepted b) s
    → (a : A) × (told ≡ Accepted a) × (onward a ≡ outcome (Accepted b) s)
onward_accepted before (Accepted a) onward e = (a, refl, e)
onward_accepted before (Refused n carried) onward e = let d = ap (λ o. o.answer) e in let z : ◌≡◌ {A = ℕ} 0 1 = cc in absurd (omega arith)

-- a test that refuses was not met
pub not_refused : {A : Type 0} (n : ℕ) (carried : List ℕ) (b : Bool) (t : Told A) {a : A} → cond b (Refused n carried) t ≡ Accepted a → (b ≡ false) × (t ≡ Accepted a)
not_refused n carried true t e = let z : ◌≡◌ {A = ℕ} 0 1 = cc in absurd (omega arith)
not_refused n carried false t e = (refl, e)
