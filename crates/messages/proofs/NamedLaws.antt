-- Which signals the tables name: those of the 1230 mask are 1C, 1P, 2C and 2P of the glo table, and the gps table lacks 2D. Assumes nothing.
use mathlib.Core.Path.{◌≡◌, refl}
use mathlib.Core.List.{[], ◌∷◌, map}
use Rattle.messages.specs.Letters.{C, D, P}
use Rattle.messages.specs.Signals.{sig, At, None, glo, gps, signal_of, number_of}
use Rattle.messages.specs.Layout1230.{mask_signals}

pub mask_is_glo : map (signal_of glo) mask_signals ≡ At (sig 1 C) ∷ At (sig 1 P) ∷ At (sig 2 C) ∷ At (sig 2 P) ∷ []
unfolding glo signal_of
mask_is_glo = refl

pub gps_lacks_2_d : number_of gps (sig 2 D) ≡ None
unfolding gps number_of
gps_lacks_2_d = refl
