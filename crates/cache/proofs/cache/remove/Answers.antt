-- Each refusal in its order; then freed, or Absent. Assumes nothing.
use Rattle.std.proofs.Common.{◌∙◌, Some, None}
use Rattle.cache.specs.Cache.{value, Remove}
use Rattle.cache.specs.Answers.{key_of}
use Rattle.cache.proofs.CodeLaws.{refused, taken, place_of, removed, no_value}
use Rattle.cache.proofs.cache.remove.Goals as goal

pub returns-in_err-admit : goal.returns-in_err-admit
returns-in_err-admit c = refused _ _ _ c.fits_key.ensures _ _ _ c.in_err-admit.ensures c.from_residual.ensures.1

pub entry_of-requires : goal.entry_of-requires
entry_of-requires c = ((taken (Remove (key_of c.args.key)) _ _ c.fits_key.ensures _ c.in_ok-admit.ensures).0, no_value)

pub returns-in_default : goal.returns-in_default
returns-in_default c =
    removed _ _ None (place_of (key_of c.args.key) (value 0 0) _ _ None c.entry_of.ensures c.in_default.ensures)
    ∙ (taken (Remove (key_of c.args.key)) _ _ c.fits_key.ensures _ c.in_ok-admit.ensures).1

pub returns : goal.returns
returns c =
    removed _ _ (Some c.in-Some.i) (place_of (key_of c.args.key) (value 0 0) _ _ (Some c.in-Some.i) c.entry_of.ensures c.in-Some.ensures)
    ∙ (taken (Remove (key_of c.args.key)) _ _ c.fits_key.ensures _ c.in_ok-admit.ensures).1
