-- `messages::put::unsigned` meets its contract. The field fits, so the write is accepted. Assumes nothing.
use borrow.Author.Tests.{lt-ltb}
use Rattle.formats.proofs.PutLaws.{is_put_one, is_put_else}
use Rattle.messages.proofs.put.unsigned.Goals as goal

pub returns-in_default : goal.returns-in_default
returns-in_default c =
    let w = c.write_unsigned in
    is_put_else _ _ _ _ _ c.requires.0 c.requires.1 c.requires.2 (lt-ltb _ _ c.requires.3) w.result _ w.ensures _ c.in_default.not-Ok

pub returns : goal.returns
returns c =
    let w = c.write_unsigned in
    is_put_one _ _ _ _ _ c.requires.0 c.requires.1 c.requires.2 (lt-ltb _ _ c.requires.3) w.result _ w.ensures _ c.in-Ok.is
