-- The start byte says which window decides: a B5 starts no frame of RTCM only. Assumes nothing.
use mathlib.Core.Path.{refl, sym, ◌∙◌}
use mathlib.Core.List.{◌++◌}
use lib.ListN.{get_or}
use Rattle.frames.proofs.CandidateLaws.{first_is}
use Rattle.frames.proofs.UbxCandidateLaws.{at_b5, b5_both, other_d3, at_other}
use Rattle.frames.proofs.RunLaws.{le_by, tails_anew, runs_anew}
use Rattle.frames.proofs.many.judge.Goals as goal

pub byte_at-requires : goal.byte_at-requires
byte_at-requires c = c.requires.0

pub by_runs-requires : goal.by_runs-requires
by_runs-requires c = let p = c.requires in let b = sym c.byte_at.ensures.0 ∙ c.if-byte_at-eq181.true in (p.0, p.1, b, p.4, p.5.runs_room, p.5.runs)

pub returns-then-byte_at-eq181 : goal.returns-then-byte_at-eq181
returns-then-byte_at-eq181 c =
    let p = c.requires in
    let a = c.args in
    let r = c.by_runs.ensures in
    let b = sym c.byte_at.ensures.0 ∙ c.if-byte_at-eq181.true in
    let n = b5_both 1 _ b p.2 in
    (r.0 ∙ at_b5 1 _ n (first_is (a.held.now ++ a.piece.now) a.i ∙ b), le_by r.2 p.3, r.1, runs_anew p.5 r.2 r.3 r.4 r.5, r.4 ∙ sym p.5.runs_room)

pub by_tails-requires : goal.by_tails-requires
by_tails-requires c = let p = c.requires in let a = c.args in (p.0, p.1, other_d3 1 (get_or (a.held.now ++ a.piece.now) a.i 0) (λ q. c.if-byte_at-eq181.false (c.byte_at.ensures.0 ∙ q)) p.2, p.3, p.5.tails_room, p.5.tails)

pub returns : goal.returns
returns c =
    let p = c.requires in
    let a = c.args in
    let r = c.by_tails.ensures in
    (r.0 ∙ at_other 1 _ (λ q. c.if-byte_at-eq181.false (c.byte_at.ensures.0 ∙ sym (first_is (a.held.now ++ a.piece.now) a.i) ∙ q)), r.1, le_by r.2 p.4, tails_anew p.5 r.2 r.3 r.4 r.5, refl)
