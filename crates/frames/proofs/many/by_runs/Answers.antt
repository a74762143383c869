-- The window reaches far enough, and decides. Assumes nothing.
use mathlib.Core.Path.{refl}
use Rattle.frames.proofs.many.by_runs.Goals as goal

pub cover_runs-window-requires : goal.cover_runs-window-requires
cover_runs-window-requires c = let p = c.requires in (p.0, p.1, p.4, p.3, p.5)

pub ubx_in-found-requires : goal.ubx_in-found-requires
ubx_in-found-requires c = let p = c.requires in let w = c.cover_runs-window.ensures in (p.0, p.1, p.2, w.0, w.1, w.2)

pub returns : goal.returns
returns c = let w = c.cover_runs-window.ensures in (c.ubx_in-found.ensures, w.0, refl, refl, w.3, w.2)
