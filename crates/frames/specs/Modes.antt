-- What a scanner is opened for. Assumes nothing.
use Rattle.std.specs.Prelude.{cond, ℕ, eqb}
use Rattle.frames.specs.Framing.{Framing}
use Rattle.frames.specs.Rtcm.{Why, Kind, rtcm}
use Rattle.frames.specs.Ubx.{ubx}
use Rattle.frames.specs.Either.{either}

-- both kinds of frames, leftmost first
abbrev pub both : Framing Why Kind
both = either 0xB5 ubx rtcm

-- the framing of a mode: 0 is RTCM only, 1 is both
abbrev pub framing_of : ℕ → Framing Why Kind
framing_of mode = cond (eqb mode 0) rtcm both
