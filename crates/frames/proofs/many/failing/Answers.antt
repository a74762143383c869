-- The start byte says which window decides. Assumes nothing.
use mathlib.Core.Path.{◌≡◌, sym, ◌∙◌}
use mathlib.Core.List.{◌++◌}
use Prim.Native.Nat.{ℕ}
use lib.ListN.{get_or, drop}
use Rattle.frames.specs.Rtcm.{rtcm}
use Rattle.frames.specs.Ubx.{ubx}
use Rattle.frames.specs.Modes.{framing_of}
use Rattle.frames.specs.Steps.{candidate}
use Rattle.frames.specs.declared.scan.Candidate.TheVariants.{NotValid}
use Rattle.std.proofs.lemmas.Option.{IfSome_then}
use Rattle.frames.proofs.SeamLaws.{at_right}
use Rattle.frames.proofs.CandidateLaws.{first_is}
use Rattle.frames.proofs.UbxCandidateLaws.{at_b5, b5_both, other_d3, at_other}
use Rattle.frames.proofs.many.failing.Goals as goal

pub ubx_failing-requires : goal.ubx_failing-requires
ubx_failing-requires c =
    let a = c.args in
    let p = c.requires in
    (p.0, p.1, p.2, sym (at_right a.held.now a.piece.now a.i p.0) ∙ c.if-piece-i.true, p.5, p.6.runs)

pub returns-then-piece-i : goal.returns-then-piece-i
returns-then-piece-i c =
    let a = c.args in
    let p = c.requires in
    let b = sym (at_right a.held.now a.piece.now a.i p.0) ∙ c.if-piece-i.true in
    IfSome_then {X = ℕ} c.ubx_failing.result {P = λ n. NotValid n ≡ candidate ubx (drop a.i (a.held.now ++ a.piece.now))} {Q = λ n. NotValid n ≡ candidate (framing_of 1) (drop a.i (a.held.now ++ a.piece.now))} c.ubx_failing.ensures (λ n f. f ∙ at_b5 1 _ (b5_both 1 _ b p.3) (first_is (a.held.now ++ a.piece.now) a.i ∙ b))

pub rtcm_failing-requires : goal.rtcm_failing-requires
rtcm_failing-requires c =
    let a = c.args in
    let p = c.requires in
    (p.0, p.1, p.2, other_d3 1 (get_or (a.held.now ++ a.piece.now) a.i 0) (λ q. c.if-piece-i.false (at_right a.held.now a.piece.now a.i p.0 ∙ q)) p.3, p.4, p.6.tails)

pub returns : goal.returns
returns c =
    let a = c.args in
    let p = c.requires in
    IfSome_then {X = ℕ} c.rtcm_failing.result {P = λ n. NotValid n ≡ candidate rtcm (drop a.i (a.held.now ++ a.piece.now))} {Q = λ n. NotValid n ≡ candidate (framing_of 1) (drop a.i (a.held.now ++ a.piece.now))} c.rtcm_failing.ensures (λ n f. f ∙ at_other 1 _ (λ q. c.if-piece-i.false (at_right a.held.now a.piece.now a.i p.0 ∙ sym (first_is (a.held.now ++ a.piece.now) a.i) ∙ q)))
