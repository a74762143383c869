-- What became of a byte of a recording: read off the items of the whole-stream scan. Assumes nothing.
use Rattle.std.specs.Prelude.{cond, List, ℕ, length, ltb, leb, Result}
use Rattle.bits.specs.Told.{Told, Accepted, size}
use Rattle.bits.specs.Refusals.{told}
use Rattle.bits.specs.declared.refusal.Refusal.{Refusal}
use Rattle.frames.specs.Scan.{Item, Scanned, scan}
use Rattle.frames.specs.Framing.{decide}
use Rattle.frames.specs.Became.{Became, In, Dropped, Waiting, became_in}
use Rattle.frames.specs.Rtcm as why
use Rattle.frames.specs.Rtcm.{Why, Kind, rtcm}
use Rattle.frames.specs.declared.fate.Fate as code
use Rattle.frames.specs.declared.fate.Fate.TheVariants as F

-- InFrame: part of the frame that starts at a place and has so many bytes. NotD3: skipped, and not D3. BadCheck: skipped, a D3 whose checksum sent is not the one computed. Held: from the unfinished candidate at a place, so many bytes to the end.
pub data Fate : Type 0 where
  InFrame : (place length : ℕ) → Fate
  NotD3 : (place : ℕ) → Fate
  BadCheck : (place sent computed : ℕ) → Fate
  Held : (place length : ℕ) → Fate

-- a byte that is skipped at a place for a reason (a scan of RTCM alone has no reason of UBX)
abbrev pub skipped_fate : ℕ → Why → Fate
skipped_fate q why.NotD3 = NotD3 q
skipped_fate q (why.BadCheck sent computed) = BadCheck q sent computed
skipped_fate q (why.OfUbx w) = NotD3 q

-- what became of the byte at place q, where the bytes h are held
abbrev pub fate_by : List ℕ → ℕ → Became Why Kind → Fate
fate_by h q (In p k l) = InFrame p l
fate_by h q (Dropped w) = skipped_fate q w
fate_by h q (Waiting p) = Held p (length h)

-- the byte at place q, where the items stand from place n on and the bytes h behind them are held
abbrev pub fate_in : ℕ → List (Item Why Kind) → List ℕ → ℕ → Fate
fate_in n is h q = fate_by h q (became_in n is q)

-- the same of a scan whose first byte stands at place n
abbrev pub fate_on : ℕ → Scanned Why Kind → ℕ → Fate
fate_on n r q = fate_in n r.items r.held q

-- The byte at place q of the recording s: Size above 65,536 bytes, and for a place at or past the end; else what the whole-stream scan made of it.
unfoldable pub fate_of : List ℕ → ℕ → Told Fate
fate_of s q =
    cond (ltb 65536 (length s)) size
    (cond (leb (length s) q) size
    (Accepted (fate_on 0 (scan (decide rtcm) s) q)))

-- what the answer of the code tells
abbrev pub known_fate : code.Fate → Fate
known_fate (F.InFrame p l) = InFrame p l
known_fate (F.NotD3 p) = NotD3 p
known_fate (F.BadCheck p a b) = BadCheck p a b
known_fate (F.Held p l) = Held p l

abbrev pub told_fate : Result code.Fate Refusal → Told Fate
told_fate r = told known_fate r
