-- Each refusal in its order; then replaced, filled or Full, by the two places. Assumes nothing.
use Rattle.std.proofs.Common.{◌∙◌, Some, None}
use Rattle.cache.specs.Cache.{Store}
use Rattle.entries.specs.Entries.{key_of, value_of}
use Rattle.entries.proofs.CallLaws.{refused, does, stored}
use Rattle.entries.proofs.store.Goals as goal

pub returns-in_err-admit : goal.returns-in_err-admit
returns-in_err-admit c = refused _ _ _ c.fits.ensures _ _ _ c.in_err-admit.ensures c.from_residual.ensures.1

pub returns-in_default : goal.returns-in_default
returns-in_default c =
    stored c.args.e c.args.s.now None c.in_default.ensures
    ∙ does (Store (key_of c.args.e) (value_of c.args.e)) _ _ c.fits.ensures _ c.in_ok-admit.ensures

pub returns : goal.returns
returns c =
    stored c.args.e c.args.s.now (Some c.in-Some.i) c.in-Some.ensures c.used.result c.used.ensures
    ∙ does (Store (key_of c.args.e) (value_of c.args.e)) _ _ c.fits.ensures _ c.in_ok-admit.ensures
