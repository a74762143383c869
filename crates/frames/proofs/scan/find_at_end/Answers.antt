-- The loop has skipped the bytes up to place i. Assumes nothing.
use mathlib.Core.Path.{sym, ap, ◌∙◌}
use mathlib.Core.List.{append-nil}
use native.Mathlib.Omega.{arith}
use lib.ListN.{get_or}
use Rattle.frames.specs.Modes.{framing_of}
use Rattle.frames.specs.Steps.{starts_in, number_of}
use Rattle.frames.proofs.ModeLaws.{lawful}
use Rattle.frames.proofs.StartLaws.{mode_starts}
use Rattle.frames.proofs.EndLaws.{past_none, past_all, past_start, past_cut, past_bad, past_good}
use Rattle.frames.proofs.scan.find_at_end.Goals as goal

pub loop-i-init : goal.loop-i-init
loop-i-init c = past_none _ _

pub returns-then-all-at : goal.returns-then-all-at
returns-then-all-at c = let a = c.args in past_all (framing_of (number_of a.mode)) a.held.now _ (past_start (framing_of (number_of a.mode)) a.held.now (lawful (number_of a.mode)) (starts_in (number_of a.mode)) (mode_starts (number_of a.mode)) _ c.loop-i.invariant _ c.next_in-at.ensures) (omega arith)

pub candidate_at-requires : goal.candidate_at-requires
candidate_at-requires c = let a = c.args in (omega arith, omega arith, ap (λ z. starts_in (number_of a.mode) (get_or z c.next_in-at.result 0)) (append-nil a.held.now) ∙ c.next_in-at.ensures.there (omega arith))

pub returns-in-Good : goal.returns-in-Good
returns-in-Good c = let a = c.args in past_good (framing_of (number_of a.mode)) a.held.now (lawful (number_of a.mode)) (starts_in (number_of a.mode)) (mode_starts (number_of a.mode)) _ c.loop-i.invariant _ c.next_in-at.ensures (omega arith) _ (sym c.in-Good.is ∙ c.candidate_at.ensures)

pub overflow_add-i : goal.overflow_add-i
overflow_add-i c = record { fits = omega arith }

pub loop-i-smaller-in-NotValid : goal.loop-i-smaller-in-NotValid
loop-i-smaller-in-NotValid c = omega (arith, c.next_in-at.ensures.from)

pub loop-i-preserved-in-NotValid : goal.loop-i-preserved-in-NotValid
loop-i-preserved-in-NotValid c = let a = c.args in past_bad (framing_of (number_of a.mode)) a.held.now (lawful (number_of a.mode)) (starts_in (number_of a.mode)) (mode_starts (number_of a.mode)) _ c.loop-i.invariant _ c.next_in-at.ensures (omega arith) _ (sym c.in-NotValid.is ∙ c.candidate_at.ensures)

pub overflow_add-i-in-Incomplete : goal.overflow_add-i-in-Incomplete
overflow_add-i-in-Incomplete c = record { fits = omega arith }

pub loop-i-smaller : goal.loop-i-smaller
loop-i-smaller c = omega (arith, c.next_in-at.ensures.from)

pub loop-i-preserved : goal.loop-i-preserved
loop-i-preserved c = let a = c.args in past_cut (framing_of (number_of a.mode)) a.held.now (lawful (number_of a.mode)) (starts_in (number_of a.mode)) (mode_starts (number_of a.mode)) _ c.loop-i.invariant _ c.next_in-at.ensures (omega arith) (sym c.in-Incomplete.is ∙ c.candidate_at.ensures)

pub returns : goal.returns
returns c = past_all _ _ _ c.loop-i.invariant (omega arith)
