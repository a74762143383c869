-- Of both kinds, the start byte says which check decides. Assumes nothing.
use mathlib.Core.Path.{sym, ◌∙◌}
use mathlib.Core.List.{◌++◌}
use native.Mathlib.Omega.{arith}
use Rattle.frames.proofs.CandidateLaws.{first_is}
use Rattle.frames.proofs.UbxCandidateLaws.{at_b5, at_d3_lem}
use Rattle.frames.proofs.scan.candidate_at.Goals as goal

pub returns-then-byte_at-eq181 : goal.returns-then-byte_at-eq181
returns-then-byte_at-eq181 c =
    let a = c.args in
    rw c.in-Both.is (c.ubx_at.ensures ∙ at_b5 1 _ (λ z. omega arith) (first_is (a.held.now ++ a.piece.now) a.i ∙ sym c.byte_at.ensures.0 ∙ c.if-byte_at-eq181.true))

pub returns-else-byte_at-eq181 : goal.returns-else-byte_at-eq181
returns-else-byte_at-eq181 c =
    let a = c.args in
    rw c.in-Both.is (c.rtcm_at-in-Both.ensures ∙ at_d3_lem 1 _ (λ z. omega arith) (λ q. c.if-byte_at-eq181.false (c.byte_at.ensures.0 ∙ sym (first_is (a.held.now ++ a.piece.now) a.i) ∙ q)))
