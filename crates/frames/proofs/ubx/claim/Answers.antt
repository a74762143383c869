-- Each return but the last is a case of what is decided at a B5; the last says what the sums are to decide. Assumes nothing.
use mathlib.Core.Path.{sym, ◌∙◌}
use native.Mathlib.Omega.{arith}
use lib.ListN.{length-append}
use Rattle.frames.proofs.UbxCandidateLaws.{payload_here, claimed, ubx_alone, ubx_other, ubx_few, ubx_long, ubx_cut}
use Rattle.frames.proofs.ubx.claim.Goals as goal

pub returns-then-left-lt2 : goal.returns-then-left-lt2
returns-then-left-lt2 c =
    let a = c.args in
    let l = length-append a.held.now a.piece.now in
    ubx_alone _ a.i c.requires.2 (omega (arith, l)) (omega (arith, l))

pub returns-then-byte_at-ne98 : goal.returns-then-byte_at-ne98
returns-then-byte_at-ne98 c =
    let a = c.args in
    let l = length-append a.held.now a.piece.now in
    ubx_other _ a.i c.requires.2 (omega (arith, l)) (λ q. c.if-byte_at-ne98.true (c.byte_at.ensures.0 ∙ q))

pub returns-then-left-lt6 : goal.returns-then-left-lt6
returns-then-left-lt6 c =
    let a = c.args in
    let l = length-append a.held.now a.piece.now in
    ubx_few _ a.i c.requires.2 (sym c.byte_at.ensures.0 ∙ c.if-byte_at-ne98.false) (omega (arith, l))

pub returns-then-n-gt1021 : goal.returns-then-n-gt1021
returns-then-n-gt1021 c =
    let a = c.args in
    let l = length-append a.held.now a.piece.now in
    ubx_long _ a.i c.requires.2 (sym c.byte_at.ensures.0 ∙ c.if-byte_at-ne98.false) (omega (arith, l)) _ (payload_here c.byte_at-low.ensures.0 c.byte_at-high.ensures.0) (omega arith)

pub returns-then-left-n : goal.returns-then-left-n
returns-then-left-n c =
    let a = c.args in
    let l = length-append a.held.now a.piece.now in
    ubx_cut _ a.i c.requires.2 (sym c.byte_at.ensures.0 ∙ c.if-byte_at-ne98.false) (omega (arith, l)) _ (payload_here c.byte_at-low.ensures.0 c.byte_at-high.ensures.0) (omega arith) (omega (arith, l))

pub returns : goal.returns
returns c =
    let a = c.args in
    let l = length-append a.held.now a.piece.now in
    let n = payload_here c.byte_at-low.ensures.0 c.byte_at-high.ensures.0 in
    (omega arith, (sym c.byte_at.ensures.0 ∙ c.if-byte_at-ne98.false, claimed n, omega arith, omega (arith, l)))
