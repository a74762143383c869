-- Sums of the window up to two places say whether those sent are those computed. Assumes nothing.
use Prim.Native.Nat.{◌+◌, ◌-◌}
use mathlib.Core.Path.{refl, sym, ◌∙◌}
use native.Mathlib.Omega.{arith}
use mathlib.Core.List.{◌++◌}
use lib.ListN.{get_or, length-append}
use Rattle.frames.proofs.UbxCandidateLaws.{ubx_first_bad, ubx_second_bad, ubx_good}
use Rattle.frames.proofs.RunLaws.{share_fits, shared_fits, second_fits, before_small, in_runs, first_is_own, first_is_other, second_is_own, second_is_other}
use Rattle.frames.proofs.many.sums_in.Goals as goal

pub overflow_add-k : goal.overflow_add-k
overflow_add-k c = record { fits = omega (arith, length-append c.args.held.now c.args.piece.now, c.requires.4.3, c.requires.2) }

pub overflow_sub-k : goal.overflow_sub-k
overflow_sub-k c = omega (arith, c.requires.2)

pub offset_bounds-runs-k : goal.offset_bounds-runs-k
offset_bounds-runs-k c = let a = c.args in record { fits = omega (arith, in_runs (a.held.now ++ a.piece.now) a.runs.now a.base a.stop c.requires.5 a.i a.n c.requires.2 c.requires.3) }

pub bounds-runs-k : goal.bounds-runs-k
bounds-runs-k c = let a = c.args in omega (arith, in_runs (a.held.now ++ a.piece.now) a.runs.now a.base a.stop c.requires.5 a.i a.n c.requires.2 c.requires.3)

pub overflow_add-after : goal.overflow_add-after
overflow_add-after c = let a = c.args in record { fits = omega (arith, in_runs (a.held.now ++ a.piece.now) a.runs.now a.base a.stop c.requires.5 a.i a.n c.requires.2 c.requires.3) }

pub overflow_add-after-2 : goal.overflow_add-after-2
overflow_add-after-2 c = let a = c.args in record { fits = omega (arith, in_runs (a.held.now ++ a.piece.now) a.runs.now a.base a.stop c.requires.5 a.i a.n c.requires.2 c.requires.3) }

pub offset_bounds-runs-k-2 : goal.offset_bounds-runs-k-2
offset_bounds-runs-k-2 c = let a = c.args in record { fits = omega (arith, in_runs (a.held.now ++ a.piece.now) a.runs.now a.base a.stop c.requires.5 a.i a.n c.requires.2 c.requires.3) }

pub bounds-runs-k-2 : goal.bounds-runs-k-2
bounds-runs-k-2 c = let a = c.args in in_runs (a.held.now ++ a.piece.now) a.runs.now a.base a.stop c.requires.5 a.i a.n c.requires.2 c.requires.3

pub overflow_add-i : goal.overflow_add-i
overflow_add-i c = record { fits = omega (arith, length-append c.args.held.now c.args.piece.now, c.requires.4.3, c.requires.2) }

pub overflow_add-i-2 : goal.overflow_add-i-2
overflow_add-i-2 c = record { fits = omega (arith, length-append c.args.held.now c.args.piece.now, c.requires.4.3, c.requires.2) }

pub byte_at-first-requires : goal.byte_at-first-requires
byte_at-first-requires c = let a = c.args in let l = length-append a.held.now a.piece.now in omega (arith, l, c.requires.4.3)

pub overflow_add-before : goal.overflow_add-before
overflow_add-before c = record { fits = omega (arith, c.byte_at-first.ensures.1) }

pub overflow_add-result : goal.overflow_add-result
overflow_add-result c = record { fits = omega (arith, length-append c.args.held.now c.args.piece.now, c.requires.4.3, c.requires.2) }

pub returns-then-before-first : goal.returns-then-before-first
returns-then-before-first c =
    let a = c.args in
    let l = length-append a.held.now a.piece.now in
    ubx_first_bad (a.held.now ++ a.piece.now) a.i c.requires.1 c.requires.4.0 (omega (arith, l, c.requires.4.3)) a.n c.requires.4.1 c.requires.4.2 (omega (arith, l, c.requires.4.3)) _ _ refl (λ q. first_is_other (a.held.now ++ a.piece.now) a.runs.now a.base a.stop c.requires.5 a.i a.n c.requires.2 c.requires.3 _ c.if-before-first.true (c.byte_at-first.ensures.0 ∙ q))

pub overflow_add-i-3 : goal.overflow_add-i-3
overflow_add-i-3 c = record { fits = omega (arith, length-append c.args.held.now c.args.piece.now, c.requires.4.3, c.requires.2) }

pub overflow_add-i-4 : goal.overflow_add-i-4
overflow_add-i-4 c = record { fits = omega (arith, length-append c.args.held.now c.args.piece.now, c.requires.4.3, c.requires.2) }

pub byte_at-second-requires : goal.byte_at-second-requires
byte_at-second-requires c = let a = c.args in let l = length-append a.held.now a.piece.now in omega (arith, l, c.requires.4.3)

pub overflow_add-n : goal.overflow_add-n
overflow_add-n c = record { fits = omega (arith, c.requires.4.2) }

pub overflow_cast-n : goal.overflow_cast-n
overflow_cast-n c = record { fits = omega (arith, c.requires.4.2) }

pub overflow_mul-n : goal.overflow_mul-n
overflow_mul-n c = let a = c.args in record { fits = share_fits a.n (get_or a.runs.now (a.i + 2 - a.base) 0) c.requires.4.2 }

pub overflow_add-before-2 : goal.overflow_add-before-2
overflow_add-before-2 c = let a = c.args in record { fits = shared_fits a.n (get_or a.runs.now (a.i + 2 - a.base) 0) c.requires.4.2 (before_small (a.held.now ++ a.piece.now) a.runs.now a.base a.stop c.requires.5 a.i a.n c.requires.2 c.requires.3) }

pub overflow_add-before-3 : goal.overflow_add-before-3
overflow_add-before-3 c = let a = c.args in record { fits = second_fits a.n (get_or a.runs.now (a.i + 2 - a.base) 0) c.byte_at-second.result c.requires.4.2 (before_small (a.held.now ++ a.piece.now) a.runs.now a.base a.stop c.requires.5 a.i a.n c.requires.2 c.requires.3) c.byte_at-second.ensures.1 }

pub overflow_add-result-then-before-n : goal.overflow_add-result-then-before-n
overflow_add-result-then-before-n c = record { fits = omega (arith, length-append c.args.held.now c.args.piece.now, c.requires.4.3, c.requires.2) }

pub returns-then-before-n : goal.returns-then-before-n
returns-then-before-n c =
    let a = c.args in
    let l = length-append a.held.now a.piece.now in
    ubx_second_bad (a.held.now ++ a.piece.now) a.i c.requires.1 c.requires.4.0 (omega (arith, l, c.requires.4.3)) a.n c.requires.4.1 c.requires.4.2 (omega (arith, l, c.requires.4.3)) _ _ refl (sym c.byte_at-first.ensures.0 ∙ first_is_own (a.held.now ++ a.piece.now) a.runs.now a.base a.stop c.requires.5 a.i a.n c.requires.2 c.requires.3 _ c.byte_at-first.ensures.1 c.if-before-first.false) (λ q. second_is_other (a.held.now ++ a.piece.now) a.runs.now a.base a.stop c.requires.5 a.i a.n c.requires.2 c.requires.3 _ c.if-before-n.true (c.byte_at-second.ensures.0 ∙ q))

pub overflow_add-result-2 : goal.overflow_add-result-2
overflow_add-result-2 c = record { fits = omega (arith, length-append c.args.held.now c.args.piece.now, c.requires.4.3, c.requires.2) }

pub returns : goal.returns
returns c =
    let a = c.args in
    let l = length-append a.held.now a.piece.now in
    ubx_good (a.held.now ++ a.piece.now) a.i c.requires.1 c.requires.4.0 (omega (arith, l, c.requires.4.3)) a.n c.requires.4.1 c.requires.4.2 (omega (arith, l, c.requires.4.3)) _ _ refl (sym c.byte_at-first.ensures.0 ∙ first_is_own (a.held.now ++ a.piece.now) a.runs.now a.base a.stop c.requires.5 a.i a.n c.requires.2 c.requires.3 _ c.byte_at-first.ensures.1 c.if-before-first.false) (sym c.byte_at-second.ensures.0 ∙ second_is_own (a.held.now ++ a.piece.now) a.runs.now a.base a.stop c.requires.5 a.i a.n c.requires.2 c.requires.3 _ c.byte_at-second.ensures.1 c.if-before-n.false)
