-- The header is tested, the block is written behind it, and then the front before it. Assumes nothing.
use mathlib.Core.Path.{sym, ◌∙◌}
use Rattle.whole.proofs.Write1230Laws.{too_long, uneven, too_many_lem, wide_header, refused_block, front_fits, written}
use Rattle.whole.proofs.write1230.write.Goals as goal

pub returns-then-bytes-gt1023 : goal.returns-then-bytes-gt1023
returns-then-bytes-gt1023 c = too_long _ _ _ _ c.if-bytes-gt1023.true

pub returns-then-signals-biases : goal.returns-then-signals-biases
returns-then-signals-biases c = uneven _ _ _ _ c.if-bytes-gt1023.false c.if-signals-biases.true

pub returns-then-signals-gt4 : goal.returns-then-signals-gt4
returns-then-signals-gt4 c = too_many_lem _ _ _ _ c.if-bytes-gt1023.false c.if-signals-biases.false c.if-signals-gt4.true

pub returns-then-not-header_fits : goal.returns-then-not-header_fits
returns-then-not-header_fits c = wide_header _ _ _ _ c.if-bytes-gt1023.false c.if-signals-biases.false c.if-signals-gt4.false (sym c.header_fits.ensures ∙ c.if-not-header_fits.true)

pub put_front-requires : goal.put_front-requires
put_front-requires c = (front_fits _ _ _ _ c.if-bytes-gt1023.false c.if-signals-biases.false c.if-signals-gt4.false (sym c.header_fits.ensures ∙ c.if-not-header_fits.false) c.in-Ok.ensures, (sym c.header_fits.ensures ∙ c.if-not-header_fits.false))

pub returns-in-Ok : goal.returns-in-Ok
returns-in-Ok c = written _ _ _ _ c.if-bytes-gt1023.false c.if-signals-biases.false c.if-signals-gt4.false (sym c.header_fits.ensures ∙ c.if-not-header_fits.false) c.in-Ok.ensures c.put_front.ensures

pub returns-in-Err : goal.returns-in-Err
returns-in-Err c = refused_block _ _ _ _ c.if-bytes-gt1023.false c.if-signals-biases.false c.if-signals-gt4.false (sym c.header_fits.ensures ∙ c.if-not-header_fits.false) _ _ c.in-Err.ensures c.behind.ensures
