-- What the writer of a block told, and what the message with the fields fs of a front of n bits before it tells, for both messages. Assumes nothing.
use mathlib.Core.Path.{◌≡◌, refl, ap}
use mathlib.Core.List.{List}
use Prim.Native.Nat.{ℕ}
use Rattle.std.specs.Prelude.{Ok, Err}
use Rattle.bits.specs.Told.{Accepted}
use Rattle.bits.specs.Outcome.{outcome}
use Rattle.bits.specs.Fields.{Field}
use Rattle.bits.specs.Refusals.{number_of, carried_by}
use Rattle.bits.specs.declared.refusal.Refusal.{Refusal}
use Rattle.bits.specs.declared.refusal.Refusal.TheVariants as R
use Rattle.formats.specs.Put.{IsPut}
use Rattle.messages.specs.Answers.{told_block}
use Rattle.whole.specs.Whole.{behind, before}

-- a refusal but Room stays as it is
pub behind_same : (n : ℕ) (r : Refusal) → ((k : ℕ) → r ≡ R.Room k → ⊥) → told_block (Err r) ≡ behind n (number_of r) (carried_by r)
behind_same n (R.Short p m) o = refl
behind_same n R.Width o = refl
behind_same n (R.Range i) o = refl
behind_same n (R.Signal i) o = refl
behind_same n (R.Satellite i) o = refl
behind_same n (R.TooMany a) o = refl
behind_same n (R.Duplicate i) o = refl
behind_same n (R.Room k) o = absurd (o k refl)
behind_same n R.Size o = refl
behind_same n R.NoPreamble o = refl
behind_same n R.State o = refl
behind_same n R.Incomplete o = refl
behind_same n R.Kind o = refl
behind_same n (R.BadCheck s c) o = refl
behind_same n R.Full o = refl
behind_same n R.Absent o = refl

module _ (n : ℕ) (fs : List Field) (u : List ℕ) where
  -- the block was refused
  pub tells_refused : (r x : Refusal) → told_block (Err x) ≡ behind n (number_of r) (carried_by r) → outcome (told_block (Err x)) u ≡ before n fs (told_block (Err r)) u
  tells_refused r x q = ap (λ t. outcome t u) q

  -- it was written, and the front before it
  pub tells_end : (q : ℕ) {v : List ℕ} {p : ℕ} → IsPut u 0 fs v p → outcome (told_block (Ok q)) v ≡ before n fs (told_block (Ok q)) u
  tells_end q d = ap (λ (x : List ℕ). outcome (Accepted q) x) d.left
