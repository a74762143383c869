-- The sums sent are those computed, or one is not. Assumes nothing.
use mathlib.Core.Path.{sym, ◌∙◌}
use native.Mathlib.Omega.{arith}
use lib.ListN.{length-append}
use mathlib.Core.List.{◌++◌}
use Rattle.frames.proofs.UbxCandidateLaws.{ubx_first_bad, ubx_second_bad, ubx_good}
use Rattle.frames.proofs.ubx.by_sums.Goals as goal

pub overflow_add-i : goal.overflow_add-i
overflow_add-i c = record { fits = omega (arith, length-append c.args.held.now c.args.piece.now, c.requires.2.3) }

pub overflow_add-n : goal.overflow_add-n
overflow_add-n c = record { fits = omega (arith, length-append c.args.held.now c.args.piece.now, c.requires.2.3) }

pub sums_of-sums-requires : goal.sums_of-sums-requires
sums_of-sums-requires c = let a = c.args in let l = length-append a.held.now a.piece.now in (omega (arith, l, c.requires.2.3), omega arith)

pub overflow_add-i-2 : goal.overflow_add-i-2
overflow_add-i-2 c = record { fits = omega (arith, length-append c.args.held.now c.args.piece.now, c.requires.2.3) }

pub overflow_add-i-3 : goal.overflow_add-i-3
overflow_add-i-3 c = record { fits = omega (arith, length-append c.args.held.now c.args.piece.now, c.requires.2.3) }

pub byte_at-requires : goal.byte_at-requires
byte_at-requires c = let a = c.args in let l = length-append a.held.now a.piece.now in omega (arith, l, c.requires.2.3)

pub overflow_add-result : goal.overflow_add-result
overflow_add-result c = record { fits = omega (arith, length-append c.args.held.now c.args.piece.now, c.requires.2.3) }

pub returns-then-byte_at-sums : goal.returns-then-byte_at-sums
returns-then-byte_at-sums c =
    let a = c.args in
    let l = length-append a.held.now a.piece.now in
    ubx_first_bad (a.held.now ++ a.piece.now) a.i c.requires.1 c.requires.2.0 (omega (arith, l, c.requires.2.3)) a.n c.requires.2.1 c.requires.2.2 (omega (arith, l, c.requires.2.3)) _ _ c.sums_of-sums.ensures (λ q. c.if-byte_at-sums.true (c.byte_at.ensures.0 ∙ q))

pub overflow_add-i-4 : goal.overflow_add-i-4
overflow_add-i-4 c = record { fits = omega (arith, length-append c.args.held.now c.args.piece.now, c.requires.2.3) }

pub overflow_add-i-5 : goal.overflow_add-i-5
overflow_add-i-5 c = record { fits = omega (arith, length-append c.args.held.now c.args.piece.now, c.requires.2.3) }

pub byte_at-requires-2 : goal.byte_at-requires-2
byte_at-requires-2 c = let a = c.args in let l = length-append a.held.now a.piece.now in omega (arith, l, c.requires.2.3)

pub overflow_add-result-then-byte_at-sums-2 : goal.overflow_add-result-then-byte_at-sums-2
overflow_add-result-then-byte_at-sums-2 c = record { fits = omega (arith, length-append c.args.held.now c.args.piece.now, c.requires.2.3) }

pub returns-then-byte_at-sums-2 : goal.returns-then-byte_at-sums-2
returns-then-byte_at-sums-2 c =
    let a = c.args in
    let l = length-append a.held.now a.piece.now in
    ubx_second_bad (a.held.now ++ a.piece.now) a.i c.requires.1 c.requires.2.0 (omega (arith, l, c.requires.2.3)) a.n c.requires.2.1 c.requires.2.2 (omega (arith, l, c.requires.2.3)) _ _ c.sums_of-sums.ensures (sym c.byte_at.ensures.0 ∙ c.if-byte_at-sums.false) (λ q. c.if-byte_at-sums-2.true (c.byte_at-2.ensures.0 ∙ q))

pub overflow_add-result-2 : goal.overflow_add-result-2
overflow_add-result-2 c = record { fits = omega (arith, length-append c.args.held.now c.args.piece.now, c.requires.2.3) }

pub returns : goal.returns
returns c =
    let a = c.args in
    let l = length-append a.held.now a.piece.now in
    ubx_good (a.held.now ++ a.piece.now) a.i c.requires.1 c.requires.2.0 (omega (arith, l, c.requires.2.3)) a.n c.requires.2.1 c.requires.2.2 (omega (arith, l, c.requires.2.3)) _ _ c.sums_of-sums.ensures (sym c.byte_at.ensures.0 ∙ c.if-byte_at-sums.false) (sym c.byte_at-2.ensures.0 ∙ c.if-byte_at-sums-2.false)
