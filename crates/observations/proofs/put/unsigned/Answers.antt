-- The field fits, so the write is accepted. Assumes nothing.
use mathlib.Core.Path.{ap, ◌∙◌}
use borrow.Author.Tests.{lt-ltb}
use Rattle.bits.specs.Field.{write_unsigned}
use Rattle.formats.proofs.PutLaws.{is_put_one, is_put_ok}
use Rattle.observations.proofs.put.unsigned.Goals as goal

pub unwrap-requires : goal.unwrap-requires
unwrap-requires c =
    let w = c.write_unsigned in
    is_put_ok _ _ _ _ _ c.requires.0 c.requires.1 c.requires.2 (lt-ltb _ _ c.requires.3) w.result _ (w.ensures ∙ ap (write_unsigned _ _ _) c.from.ensures)

pub returns : goal.returns
returns c =
    let w = c.write_unsigned in
    is_put_one _ _ _ _ _ c.requires.0 c.requires.1 c.requires.2 (lt-ltb _ _ c.requires.3) w.result _ (w.ensures ∙ ap (write_unsigned _ _ _) c.from.ensures) _ c.unwrap.ensures
