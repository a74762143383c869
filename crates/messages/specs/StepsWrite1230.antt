-- What private functions of writing the 1230 block compute, signal by signal. No promise to a caller rests on this file. Assumes nothing.
use Rattle.std.specs.Prelude.{◌≡◌, List, [], ◌∷◌, ℕ, ◌+◌, ◌*◌, ◌%◌, ◌^◌, ◌≤◌, length, ℤ, eqb}
use Rattle.bits.specs.Fields.{Field, bits}
use Rattle.formats.specs.Format.{twos, fields_each}
use Rattle.formats.specs.Written.{fine, first_fault}
use Rattle.messages.specs.Writer.{first_repeat}
use Rattle.messages.specs.Write1230.{fault1230}

-- the field of each bias
abbrev pub bias_fields1230 : List ℤ → List Field
bias_fields1230 zs = fields_each (twos 16) zs

-- a run of fields as one number below the number x, the last field's bits lowest
unfoldable pub joined : ℕ → List Field → ℕ
joined x [] = x
joined x (bits w v ∷ fs) = joined (x * 2 ^ w + v % 2 ^ w) fs

-- what is asked of lists once nothing but Room can be refused: one length, at most four, signals of the mask, none twice
pub record Faultless1230 (gs : List ℕ) (zs : List ℤ) : Type 0 where
  pub even : length gs ≡ length zs
  pub most : length gs ≤ 4
  pub known : first_fault fault1230 0 gs ≡ fine
  pub single : first_repeat eqb 0 [] gs ≡ fine
