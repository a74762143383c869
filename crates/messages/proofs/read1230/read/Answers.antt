-- `messages::read1230::read` meets its contract. What is there of the mask and of the biases decides the answer, and the biases are stored where nothing is refused. Assumes nothing.
use mathlib.Core.Path.{◌≡◌, sym, ap, ◌∙◌}
use Prim.Native.Nat.{◌+◌}
use native.Mathlib.Omega.{arith}
use Rattle.bits.specs.Told.{Refused}
use Rattle.bits.specs.Outcome.{outcome}
use Rattle.bits.specs.Refusals.{number_of, carried_by}
use Rattle.bits.specs.declared.refusal.Refusal.{Refusal}
use Rattle.bits.proofs.ReadLaws.{reads_short}
use Rattle.messages.specs.Layout1230.{mask_signals, masked}
use Rattle.messages.specs.StepsRead.{put1230}
use Rattle.messages.proofs.CallLaws.{has_room, refuses, lacks_room, reads}
use Rattle.messages.proofs.Read1230Laws.{too_long, uneven, mask_cut, mask_read, biases_fit, no_bias, mask_there, outcome_of, call1230}
use Rattle.messages.proofs.read1230.read.Goals as goal

-- a refusal by its name
refused_by : {A S : Type 0} (areas : S) {r q : Refusal} → r ≡ q → outcome {A = A} (Refused (number_of r) (carried_by r)) areas ≡ outcome (Refused (number_of q) (carried_by q)) areas
refused_by areas e = ap (λ x. outcome (Refused (number_of x) (carried_by x)) areas) e

pub returns-then-bytes-gt1023 : goal.returns-then-bytes-gt1023
returns-then-bytes-gt1023 c = too_long _ _ _ _ (omega arith)

pub returns-then-signals-biases : goal.returns-then-signals-biases
returns-then-signals-biases c = uneven _ _ _ _ (omega arith) c.if-signals-biases.true

pub returns-then-all-lt4 : goal.returns-then-all-lt4
returns-then-all-lt4 c =
    refused_by _ c.short.ensures
    ∙ mask_cut _ _ _ _ (omega arith) c.if-signals-biases.false (reads_short (λ x. x) _ _ 4 (omega arith) (omega arith) (omega arith) (omega arith))

pub returns-then-all-start : goal.returns-then-all-start
returns-then-all-start c =
    refused_by _ c.short-then-all-start.ensures
    ∙ mask_cut _ _ _ _ (omega arith) c.if-signals-biases.false (reads_short (λ x. x) _ _ 4 (omega arith) (omega arith) (omega arith) (omega arith))

pub returns-then-whole-count : goal.returns-then-whole-count
returns-then-whole-count c =
    let m = c.mask_at-mask.ensures.0 in
    let n = sym c.signals_in-count.ensures.0 in
    refused_by _ c.short-then-whole-count.ensures
    ∙ refuses put1230 outcome_of (call1230 c.args.bytes.now _ _ _ _ c.if-signals-biases.false)
    (no_bias c.args.bytes.now (omega arith) (masked mask_signals _) _ _ n _ c.if-whole-count.true (omega arith) (omega arith))
    ∙ mask_read _ _ _ _ (omega arith) c.if-signals-biases.false (mask_there _ _ m (omega arith) (omega arith))

pub returns-then-signals-count : goal.returns-then-signals-count
returns-then-signals-count c =
    let e = biases_fit c.args.bytes.now (omega arith) (masked mask_signals _) _ (c.args.start + 4) (sym c.signals_in-count.ensures.0) (omega arith) in
    lacks_room put1230 outcome_of (call1230 c.args.bytes.now _ _ _ _ c.if-signals-biases.false) e (omega arith)
    ∙ mask_read _ _ _ _ (omega arith) c.if-signals-biases.false (mask_there _ _ c.mask_at-mask.ensures.0 (omega arith) (omega arith))

pub store-requires : goal.store-requires
store-requires c =
    let e = biases_fit c.args.bytes.now (omega arith) (masked mask_signals _) _ (c.args.start + 4) (sym c.signals_in-count.ensures.0) (omega arith) in
    record { few = omega arith; suffices = has_room _ _ e (omega arith); biases = omega arith }

pub returns : goal.returns
returns c =
    let e = biases_fit c.args.bytes.now (omega arith) (masked mask_signals _) _ (c.args.start + 4) (sym c.signals_in-count.ensures.0) (omega arith) in
    reads put1230 outcome_of (call1230 c.args.bytes.now _ _ _ _ c.if-signals-biases.false) (has_room _ _ e (omega arith)) (record { says = e; lists = c.store.ensures })
    ∙ mask_read _ _ _ _ (omega arith) c.if-signals-biases.false (mask_there _ _ c.mask_at-mask.ensures.0 (omega arith) (omega arith))
