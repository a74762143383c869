-- The bias block of message 1230 as the standard's table has it, and the records that it stands for. Assumes nothing.
use Rattle.std.specs.Prelude.{cond, List, [], ◌∷◌, map, ℕ, ◌+◌, ◌*◌, ◌/◌, ◌%◌, ◌^◌, length, ℤ, eqb}
use Rattle.formats.specs.Format.{Format, unsigned, twos, next, times}
use Rattle.messages.specs.Every.{gather}
use Rattle.messages.specs.Records.{Rec1230, rec1230, signal_of1230, records1230}
use Rattle.messages.specs.Writer.{keep, is_among}

-- ---- the table

-- the signals of the mask from its top bit, 1C, 1P, 2C and 2P, by their glo numbers
abbrev pub mask_signals : List ℕ
mask_signals = 2 ∷ 3 ∷ 8 ∷ 9 ∷ []

-- the signals of gs whose bit of the mask m is set; the last signal's bit is the lowest
unfoldable pub masked : List ℕ → ℕ → List ℕ
masked [] m = []
masked (g ∷ gs) m = keep (eqb (m / 2 ^ length gs % 2) 1) g (masked gs m)

-- DF422 the mask (4 bits); DF423, DF424, DF425, DF426 the biases (16, two's complement) of those signals that it has
abbrev pub block1230 : Format (ℕ × List ℤ)
block1230 = next (unsigned 4) (λ m. times (length (masked mask_signals m)) (twos 16))

-- ---- the records of a block

-- a bias for each signal that the mask has
abbrev pub flat1230 : ℕ × List ℤ → List Rec1230
flat1230 x = records1230 (masked mask_signals x.0) x.1

-- ---- the block of records

-- the biases of signal g, in list order
unfoldable pub of_signal : ℕ → List Rec1230 → List ℤ
of_signal g [] = []
of_signal g (rec1230 h z ∷ rs) = keep (eqb h g) z (of_signal g rs)

-- the mask: the bit of each signal of gs that is one of hs, the last signal's lowest
unfoldable pub mask_of : List ℕ → List ℕ → ℕ
mask_of [] hs = 0
mask_of (g ∷ gs) hs = cond (is_among eqb g hs) 1 0 * 2 ^ length gs + mask_of gs hs

-- the mask of records, and their biases in its order
abbrev pub grouped1230 : List Rec1230 → ℕ × List ℤ
grouped1230 rs = (mask_of mask_signals (map signal_of1230 rs), gather (λ g. of_signal g rs) mask_signals)
