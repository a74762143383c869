-- Each refusal in its order; then replaced, filled or Full, by the two places. Assumes nothing.
use Rattle.std.proofs.Common.{◌∙◌, Some, None}
use Rattle.cache.specs.Cache.{value, Store}
use Rattle.cache.specs.Answers.{key_of}
use Rattle.cache.proofs.CodeLaws.{refused, taken, stored_in, both}
use Rattle.cache.proofs.cache.store.Goals as goal

pub returns-in_err-admit : goal.returns-in_err-admit
returns-in_err-admit c = refused _ _ _ c.fits.ensures _ _ _ c.in_err-admit.ensures c.from_residual.ensures.1

pub entry_of-e-requires : goal.entry_of-e-requires
entry_of-e-requires c = both _ _ (taken (Store (key_of c.args.key) (value c.args.iod c.args.bias)) _ _ c.fits.ensures _ c.in_ok-admit.ensures).0

pub returns-in_default : goal.returns-in_default
returns-in_default c =
    stored_in (key_of c.args.key) (value c.args.iod c.args.bias) _ _ c.entry_of-e.ensures None c.in_default.ensures
    ∙ (taken (Store (key_of c.args.key) (value c.args.iod c.args.bias)) _ _ c.fits.ensures _ c.in_ok-admit.ensures).1

pub returns : goal.returns
returns c =
    stored_in (key_of c.args.key) (value c.args.iod c.args.bias) _ _ c.entry_of-e.ensures (Some c.in-Some.i) c.in-Some.ensures
    ∙ (taken (Store (key_of c.args.key) (value c.args.iod c.args.bias)) _ _ c.fits.ensures _ c.in_ok-admit.ensures).1
