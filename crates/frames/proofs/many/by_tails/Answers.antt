-- The window reaches far enough, and decides. Assumes nothing.
use mathlib.Core.Path.{refl}
use Rattle.frames.proofs.many.by_tails.Goals as goal

pub cover-window-requires : goal.cover-window-requires
cover-window-requires c = let p = c.requires in (p.0, p.1, p.4, p.3, p.5)

pub rtcm_in-found-requires : goal.rtcm_in-found-requires
rtcm_in-found-requires c = let p = c.requires in let w = c.cover-window.ensures in (p.0, p.1, p.2, w.0, w.1, w.2)

pub returns : goal.returns
returns c = let w = c.cover-window.ensures in (c.rtcm_in-found.ensures, w.0, refl, refl, w.3, w.2)
