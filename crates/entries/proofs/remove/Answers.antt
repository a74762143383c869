-- Each refusal in its order; then freed, or Absent. Assumes nothing.
use Rattle.std.proofs.Common.{◌∙◌, ap, Some, None}
use Rattle.cache.specs.Cache.{fits_key, Remove}
use Rattle.entries.specs.Entries.{key_of}
use Rattle.entries.proofs.CallLaws.{refused, does, removed}
use Rattle.entries.proofs.remove.Goals as goal

pub returns-in_err-admit : goal.returns-in_err-admit
returns-in_err-admit c =
    refused (Remove (key_of c.args.e)) _ _ (c.fits_key.ensures ∙ ap fits_key c.key_of.ensures) _ _ _ c.in_err-admit.ensures c.from_residual.ensures.1

pub returns-in_default : goal.returns-in_default
returns-in_default c =
    removed c.args.e c.args.s.now None c.in_default.ensures
    ∙ does (Remove (key_of c.args.e)) _ _ (c.fits_key.ensures ∙ ap fits_key c.key_of.ensures) _ c.in_ok-admit.ensures

pub returns : goal.returns
returns c =
    removed c.args.e c.args.s.now (Some c.in-Some.i) c.in-Some.ensures c.vacated.result c.vacated.ensures
    ∙ does (Remove (key_of c.args.e)) _ _ (c.fits_key.ensures ∙ ap fits_key c.key_of.ensures) _ c.in_ok-admit.ensures
