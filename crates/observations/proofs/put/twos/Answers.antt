-- The field fits, so the write is accepted; a number of 64 bits is the one of 32. Assumes nothing.
use mathlib.Core.Path.{ap, ◌∙◌}
use Rattle.bits.specs.Field.{write_twos}
use Rattle.formats.proofs.PutLaws.{is_put_one, is_put_ok}
use Rattle.observations.proofs.PhaseLaws.{widen}
use Rattle.observations.proofs.put.twos.Goals as goal

pub unwrap-requires : goal.unwrap-requires
unwrap-requires c =
    let w = c.write_twos in
    is_put_ok _ _ _ _ _ c.requires.0 c.requires.1 c.requires.2 c.requires.3 w.result _ (w.ensures ∙ ap (write_twos _ _ _) (widen c.args.value c.ranges.value c.from.ensures))

pub returns : goal.returns
returns c =
    let w = c.write_twos in
    is_put_one _ _ _ _ _ c.requires.0 c.requires.1 c.requires.2 c.requires.3 w.result _ (w.ensures ∙ ap (write_twos _ _ _) (widen c.args.value c.ranges.value c.from.ensures)) _ c.unwrap.ensures
