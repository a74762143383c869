-- B5 starts a frame of UBX, and no other byte does. Assumes nothing.
use mathlib.Core.Path.{sym}
use Rattle.batch.proofs.KindLaws.{b5_number, other_number}
use Rattle.batch.proofs.walk.kind_number.Goals as goal

pub returns-then-first-eq181 : goal.returns-then-first-eq181
returns-then-first-eq181 c = sym (b5_number _ c.if-first-eq181.true)

pub returns : goal.returns
returns c = sym (other_number _ c.if-first-eq181.false)
