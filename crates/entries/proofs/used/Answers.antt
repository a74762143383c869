-- The low bits of the widened bias are the bias. Assumes nothing.
use mathlib.Core.Path.{sym, ap}
use mathlib.Core.List.{[], ◌∷◌}
use Prim.Native.Nat.{ℕ, ◌<◌, ◌^◌}
use native.Mathlib.Omega.{arith}
use Rattle.cache.proofs.BiasLaws.{narrowed}
use Rattle.entries.proofs.used.Goals as goal

pub returns : goal.returns
returns c =
    let e = c.args.e in
    let h : e.bias < 2 ^ 16 = omega arith in
    ap (λ (x : ℕ). 1 ∷ e.provider ∷ e.solution ∷ e.satellite ∷ e.signal ∷ e.iod ∷ x ∷ []) (sym (narrowed e.bias h))
