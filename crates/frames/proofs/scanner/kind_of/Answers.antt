-- B5 starts a frame of UBX, and no other byte does. Assumes nothing.
use mathlib.Core.Path.{sym}
use Rattle.frames.proofs.KindLaws.{b5_kind, other_kind}
use Rattle.frames.proofs.scanner.kind_of.Goals as goal

pub returns-then-first-eq181 : goal.returns-then-first-eq181
returns-then-first-eq181 c = sym (b5_kind _ c.if-first-eq181.true)

pub returns : goal.returns
returns c = sym (other_kind _ c.if-first-eq181.false)
