-- The bias block of message 1059, read satellite by satellite: what it must be like to be written back to the same bits. Assumes nothing.
use Rattle.std.specs.Prelude.{◌≡◌, true, List, [], ◌∷◌, ℕ, suc, ◌≤◌, length}
use Rattle.bits.specs.Told.{Told}
use Rattle.bits.specs.Field.{Reading}
use Rattle.formats.specs.Written.{fine}
use Rattle.messages.specs.Every.{Every}
use Rattle.messages.specs.Records.{signal_of1059}
use Rattle.messages.specs.Layout1059.{Sat, block1059, flat1059}
use Rattle.messages.specs.Writer.{first_repeat}
use Rattle.messages.specs.Write1059.{same_pair}
use Rattle.messages.specs.Signals1059.{is_edition, is_signal1059}

-- the satellites of the block from bit p on
abbrev pub satellites1059 : List ℕ → ℕ → Told (Reading (List Sat))
satellites1059 s p = block1059.reads s p

-- the numbers ascend strictly, the first being at least a
unfoldable pub AscendingFrom : ℕ → List Sat → Type 0
AscendingFrom a [] = Unit
AscendingFrom a (x ∷ xs) = (a ≤ x.0) × AscendingFrom (suc x.0) xs

-- an edition that there is; satellites strictly ascending, each with a bias, no signal that the edition reserves, and no satellite and signal twice
pub record Regular (edition : ℕ) (xs : List Sat) : Type 0 where
  pub known : is_edition edition ≡ true
  pub ascending : AscendingFrom 0 xs
  pub biased : Every (λ x. 1 ≤ length x.1) xs
  pub assigned : Every (λ r. is_signal1059 edition (signal_of1059 r) ≡ true) (flat1059 xs)
  pub single : first_repeat same_pair 0 [] (flat1059 xs) ≡ fine
