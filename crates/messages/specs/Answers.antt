-- What each answer of the code tells. Assumes nothing.
use Rattle.std.specs.Prelude.{ℕ, ℤ, Option, Some, Result}
use Rattle.std.specs.Prelude as P
use Rattle.std.specs.declared.cmp.Ordering.{Ordering}
use Rattle.std.specs.declared.cmp.Ordering.TheVariants as O
use Rattle.bits.specs.Told.{Told}
use Rattle.messages.specs.Signals.{Signal, sig, Found, At, None}
use Rattle.messages.specs.SignalOrder.{less, equal, greater}
use Rattle.messages.specs.Records.{Counted, counted}
use Rattle.messages.specs.declared.signals.Signal.{Signal as Band}
use Rattle.messages.specs.declared.answer.Records.{Records}
use Rattle.bits.specs.Refusals.{told}
use Rattle.bits.specs.declared.refusal.Refusal.{Refusal}

-- a signal, or none
abbrev pub found_signal : Option Band → Found Signal
found_signal (Some s) = At (sig s.band s.letter)
found_signal P.None = None

-- a number, or none
abbrev pub found_number : Option ℕ → Found ℕ
found_number (Some number) = At number
found_number P.None = None

-- a signal of an edition, or none, or Kind
abbrev pub told_signal : Result (Option Band) Refusal → Told (Found Signal)
told_signal = told found_signal

-- a number of an edition, or none, or Kind
abbrev pub told_number : Result (Option ℕ) Refusal → Told (Found ℕ)
told_number = told found_number

-- -1, 0 or 1
abbrev pub told_order : Ordering → ℤ
told_order O.Less = less
told_order O.Equal = equal
told_order O.Greater = greater

-- how many records there are, and the bit behind them
abbrev pub records_of : Records → Counted
records_of r = counted r.count r.end

-- how many records were read, and the bit behind the block; or a refusal
abbrev pub told_read : Result Records Refusal → Told Counted
told_read = told records_of

-- the bit behind the block that was written; or a refusal
abbrev pub told_block : Result ℕ Refusal → Told ℕ
told_block = told (λ q. q)
