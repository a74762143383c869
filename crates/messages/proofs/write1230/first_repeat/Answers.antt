-- `messages::write1230::first_repeat` meets its contract. The loop's invariant: no signal before `i` repeats. Assumes nothing.
use mathlib.Core.Path.{◌≡◌, sym, ap, ◌∙◌}
use mathlib.Core.Bool.{Bool}
use mathlib.Core.List.{List}
use Prim.Native.Nat.{ℕ, ◌-◌, ◌<◌}
use native.Mathlib.Nat.{sub-zero}
use native.Mathlib.Omega.{arith}
use lib.ListN.{length, take, get_or}
use lib.Dec.{eqb}
use Rattle.messages.specs.Write1230.{is_in}
use Rattle.messages.proofs.RepeatLaws.{seen_at, repeat_here, no_repeat_here, no_more}
use Rattle.messages.proofs.Signals1230Laws.{seen_is}
use Rattle.messages.proofs.write1230.first_repeat.Goals as goal

-- the part before place i
before : (s : List ℕ) (i : ℕ) {r b : Bool} → i < length s → r ≡ is_in (get_or s i 0) (take (i - 0) s) → r ≡ b → is_in (get_or s i 0) (seen_at eqb 0 s i) ≡ b
before s i h e q = seen_is (get_or s i 0) s i (omega arith) ∙ ap (λ (n : ℕ). is_in (get_or s i 0) (take n s)) (sym (sub-zero i)) ∙ sym e ∙ q

pub returns-then-is_in : goal.returns-then-is_in
returns-then-is_in c =
    let l = c.loop-i in
    let s = c.args.signals.now in
    sym (l.invariant ∙ repeat_here eqb 0 s l.i (omega arith) (before s l.i (omega arith) c.is_in.ensures c.if-is_in.true))

pub loop-i-preserved : goal.loop-i-preserved
loop-i-preserved c =
    let l = c.loop-i in
    let s = c.args.signals.now in
    l.invariant ∙ no_repeat_here eqb 0 s l.i (omega arith) (before s l.i (omega arith) c.is_in.ensures c.if-is_in.false)

pub returns : goal.returns
returns c =
    let l = c.loop-i in
    sym (l.invariant ∙ no_more eqb 0 c.args.signals.now l.i (omega arith))
