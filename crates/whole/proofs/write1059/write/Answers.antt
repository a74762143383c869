-- The header is tested, the block is written behind it, and then the front before it. Assumes nothing.
use mathlib.Core.Path.{sym, ◌∙◌}
use Rattle.whole.proofs.Write1059Laws.{another_edition, too_long, uneven, uneven_too, too_many_lem, wide_header, refused_block, front_fits, written}
use Rattle.whole.proofs.write1059.write.Goals as goal

pub returns-then-not-is_edition : goal.returns-then-not-is_edition
returns-then-not-is_edition c = another_edition _ _ _ _ _ _ (sym c.is_edition.ensures ∙ c.if-not-is_edition.true)

pub returns-then-bytes-gt1023 : goal.returns-then-bytes-gt1023
returns-then-bytes-gt1023 c = too_long _ _ _ _ _ _ (sym c.is_edition.ensures ∙ c.if-not-is_edition.false) c.if-bytes-gt1023.true

pub returns-then-satellites-signals : goal.returns-then-satellites-signals
returns-then-satellites-signals c = uneven _ _ _ _ _ _ (sym c.is_edition.ensures ∙ c.if-not-is_edition.false) c.if-bytes-gt1023.false c.if-satellites-signals.true

pub returns-then-satellites-biases : goal.returns-then-satellites-biases
returns-then-satellites-biases c = uneven_too _ _ _ _ _ _ (sym c.is_edition.ensures ∙ c.if-not-is_edition.false) c.if-bytes-gt1023.false c.if-satellites-signals.false c.if-satellites-biases.true

pub returns-then-satellites-gt1953 : goal.returns-then-satellites-gt1953
returns-then-satellites-gt1953 c = too_many_lem _ _ _ _ _ _ (sym c.is_edition.ensures ∙ c.if-not-is_edition.false) c.if-bytes-gt1023.false c.if-satellites-signals.false c.if-satellites-biases.false c.if-satellites-gt1953.true

pub returns-then-not-header_fits : goal.returns-then-not-header_fits
returns-then-not-header_fits c = wide_header _ _ _ _ _ _ (sym c.is_edition.ensures ∙ c.if-not-is_edition.false) c.if-bytes-gt1023.false c.if-satellites-signals.false c.if-satellites-biases.false c.if-satellites-gt1953.false (sym c.header_fits.ensures ∙ c.if-not-header_fits.true)

pub put_front-requires : goal.put_front-requires
put_front-requires c = (front_fits _ _ _ _ _ _ (sym c.is_edition.ensures ∙ c.if-not-is_edition.false) c.if-bytes-gt1023.false c.if-satellites-signals.false c.if-satellites-biases.false c.if-satellites-gt1953.false (sym c.header_fits.ensures ∙ c.if-not-header_fits.false) c.in-Ok.ensures, (sym c.header_fits.ensures ∙ c.if-not-header_fits.false))

pub returns-in-Ok : goal.returns-in-Ok
returns-in-Ok c = written _ _ _ _ _ _ (sym c.is_edition.ensures ∙ c.if-not-is_edition.false) c.if-bytes-gt1023.false c.if-satellites-signals.false c.if-satellites-biases.false c.if-satellites-gt1953.false (sym c.header_fits.ensures ∙ c.if-not-header_fits.false) c.in-Ok.ensures c.put_front.ensures

pub returns-in-Err : goal.returns-in-Err
returns-in-Err c = refused_block _ _ _ _ _ _ (sym c.is_edition.ensures ∙ c.if-not-is_edition.false) c.if-bytes-gt1023.false c.if-satellites-signals.false c.if-satellites-biases.false c.if-satellites-gt1953.false (sym c.header_fits.ensures ∙ c.if-not-header_fits.false) _ _ c.in-Err.ensures c.behind.ensures
