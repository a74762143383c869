-- The bytes behind the B5 say that the candidate fails, or the sums of the window do. Assumes nothing.
use mathlib.Core.Path.{◌≡◌, sym, ◌∙◌}
use mathlib.Core.List.{◌++◌}
use Prim.Native.Nat.{ℕ}
use native.Mathlib.Omega.{arith}
use lib.ListN.{drop, length-append}
use Rattle.frames.specs.Ubx.{ubx}
use Rattle.frames.specs.Steps.{candidate}
use Rattle.frames.specs.declared.scan.Candidate.TheVariants.{NotValid}
use Rattle.std.proofs.lemmas.Option.{IfSome_then}
use Rattle.frames.proofs.UbxCandidateLaws.{payload_here, ubx_other, ubx_long}
use Rattle.frames.proofs.PassLaws.{piece_at}
use Rattle.frames.proofs.many.ubx_failing.Goals as goal

pub bounds-piece-d : goal.bounds-piece-d
bounds-piece-d c = let a = c.args in let l = length-append a.held.now a.piece.now in omega (arith, l, c.requires.5.within, c.saturating_sub.ensures)

pub returns-then-piece-d-ne98 : goal.returns-then-piece-d-ne98
returns-then-piece-d-ne98 c =
    let a = c.args in
    let p = c.requires in
    let l = length-append a.held.now a.piece.now in
    ubx_other (a.held.now ++ a.piece.now) a.i p.3 (omega (arith, l, p.5.within, c.saturating_sub.ensures)) (λ q. c.if-piece-d-ne98.true (piece_at a.held.now a.piece.now a.i 1 p.0 ∙ q))

pub bounds-piece-d-2 : goal.bounds-piece-d-2
bounds-piece-d-2 c = let a = c.args in let l = length-append a.held.now a.piece.now in omega (arith, l, c.requires.5.within, c.saturating_sub.ensures)

pub bounds-piece-d-3 : goal.bounds-piece-d-3
bounds-piece-d-3 c = let a = c.args in let l = length-append a.held.now a.piece.now in omega (arith, l, c.requires.5.within, c.saturating_sub.ensures)

pub returns-then-n-gt1021 : goal.returns-then-n-gt1021
returns-then-n-gt1021 c =
    let a = c.args in
    let p = c.requires in
    let l = length-append a.held.now a.piece.now in
    ubx_long (a.held.now ++ a.piece.now) a.i p.3 (sym (piece_at a.held.now a.piece.now a.i 1 p.0) ∙ c.if-piece-d-ne98.false) (omega (arith, l, p.5.within, c.saturating_sub.ensures)) _ (payload_here (piece_at a.held.now a.piece.now a.i 4 p.0) (piece_at a.held.now a.piece.now a.i 5 p.0)) (omega arith)

pub sums_in-requires : goal.sums_in-requires
sums_in-requires c =
    let a = c.args in
    let p = c.requires in
    let l = length-append a.held.now a.piece.now in
    (p.2, p.3, p.4, omega (arith, c.saturating_sub.ensures), (sym (piece_at a.held.now a.piece.now a.i 1 p.0) ∙ c.if-piece-d-ne98.false, payload_here (piece_at a.held.now a.piece.now a.i 4 p.0) (piece_at a.held.now a.piece.now a.i 5 p.0), omega arith, omega (arith, l, p.5.within, c.saturating_sub.ensures)), p.5)

pub returns : goal.returns
returns c = let a = c.args in IfSome_then {X = ℕ} c.failed_by.result {P = λ n. c.sums_in.result ≡ NotValid n} {Q = λ n. NotValid n ≡ candidate ubx (drop a.i (a.held.now ++ a.piece.now))} c.failed_by.ensures (λ n f. sym f ∙ c.sums_in.ensures)
