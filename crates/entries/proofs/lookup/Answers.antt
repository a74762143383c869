-- Each refusal in its order; then the value of the first place, or Absent. Assumes nothing.
use Rattle.std.proofs.Common.{◌∙◌, ap, Some, None}
use Rattle.cache.specs.Cache.{fits_key, Lookup}
use Rattle.entries.specs.Entries.{key_of}
use Rattle.entries.proofs.CallLaws.{refused, does, looked_up}
use Rattle.entries.proofs.lookup.Goals as goal

pub returns-in_err-admit : goal.returns-in_err-admit
returns-in_err-admit c =
    refused (Lookup (key_of c.args.e)) _ _ (c.fits_key.ensures ∙ ap fits_key c.key_of.ensures) _ _ _ c.in_err-admit.ensures c.from_residual.ensures.1

pub returns-in-None : goal.returns-in-None
returns-in-None c =
    looked_up c.args.e c.args.s.now None c.in-None.ensures
    ∙ does (Lookup (key_of c.args.e)) _ _ (c.fits_key.ensures ∙ ap fits_key c.key_of.ensures) _ c.in_ok-admit.ensures

pub returns-in-Some : goal.returns-in-Some
returns-in-Some c =
    looked_up c.args.e c.args.s.now (Some c.in-Some.i) c.in-Some.ensures _ _ c.value_of.ensures
    ∙ does (Lookup (key_of c.args.e)) _ _ (c.fits_key.ensures ∙ ap fits_key c.key_of.ensures) _ c.in_ok-admit.ensures
