-- Each refusal in its order; then the value of the first place, or Absent. Assumes nothing.
use Rattle.std.proofs.Common.{◌∙◌, ap, Some, None}
use Rattle.bits.specs.Told.{Accepted}
use Rattle.bits.specs.Outcome.{outcome}
use mathlib.Core.Option.{some}
use Rattle.cache.specs.Cache.{Value, value, Lookup}
use Rattle.cache.specs.Answers.{key_of}
use Rattle.cache.proofs.CodeLaws.{refused, taken, place_of, looked_up, no_value}
use Rattle.cache.proofs.cache.lookup.Goals as goal

pub returns-in_err-admit : goal.returns-in_err-admit
returns-in_err-admit c = refused _ _ _ c.fits_key.ensures _ _ _ c.in_err-admit.ensures c.from_residual.ensures.1

pub entry_of-requires : goal.entry_of-requires
entry_of-requires c = ((taken (Lookup (key_of c.args.key)) _ _ c.fits_key.ensures _ c.in_ok-admit.ensures).0, no_value)

pub returns-in-None : goal.returns-in-None
returns-in-None c =
    looked_up _ _ None (place_of (key_of c.args.key) (value 0 0) _ _ None c.entry_of.ensures c.in-None.ensures)
    ∙ (taken (Lookup (key_of c.args.key)) _ _ c.fits_key.ensures _ c.in_ok-admit.ensures).1

pub returns-in-Some : goal.returns-in-Some
returns-in-Some c =
    ap (λ (v : Value). outcome (Accepted (some v)) c.args.entries.now) c.value_in.ensures
    ∙ looked_up _ _ (Some c.in-Some.i) (place_of (key_of c.args.key) (value 0 0) _ _ (Some c.in-Some.i) c.entry_of.ensures c.in-Some.ensures)
    ∙ (taken (Lookup (key_of c.args.key)) _ _ c.fits_key.ensures _ c.in_ok-admit.ensures).1
