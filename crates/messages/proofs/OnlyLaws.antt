-- For each public function: two answers that its statement allows are equal, and so are the lent areas that two runs leave. Assumes nothing.
use mathlib.Core.Path.{◌≡◌, sym, ◌∙◌}
use mathlib.Core.List.{List}
use Prim.Native.Nat.{ℕ}
use lib.IntN.{ℤ}
use lib.Ieee.{Float}
use Rattle.bits.specs.Outcome.{outcome}
use Rattle.messages.specs.Signals.{sig, signal_of, number_of, table_of}
use Rattle.messages.specs.SignalOrder.{order}
use Rattle.messages.specs.Signals1059.{named_signal1059, named_number1059}
use Rattle.messages.specs.Metres.{metres1059, metres1230, hundredths1059, hundredths1230}
use Rattle.messages.specs.Read1059.{read1059}
use Rattle.messages.specs.Read1230.{read1230}
use Rattle.messages.specs.Write1059.{write1059}
use Rattle.messages.specs.Write1230.{write1230}
use Rattle.messages.specs.Answers.{found_signal, found_number, told_signal, told_number, told_order, told_read, told_block}
use Rattle.messages.specs.declared.answer.Records.{Records}
use Rattle.std.specs.Prelude.{Option, Result}
use Rattle.std.specs.declared.cmp.Ordering.{Ordering}
use Rattle.messages.specs.declared.signals.Signal.{Signal}
use Rattle.bits.specs.declared.refusal.Refusal.{Refusal}
use Rattle.bits.proofs.ToldLaws.{only}
use Rattle.messages.proofs.ToldLaws.{signal_one_to_one, number_one_to_one, same_signal_found, same_number_found, same_order, only_read, only_block}

-- ---- signals

pub only_signal_of : (system number : ℕ) {x y : Option Signal} → found_signal x ≡ signal_of (table_of system) number → found_signal y ≡ signal_of (table_of system) number → x ≡ y
only_signal_of system number p q = same_signal_found _ _ (p ∙ sym q)

pub only_number_of : (system band letter : ℕ) {x y : Option ℕ} → found_number x ≡ number_of (table_of system) (sig band letter)
    → found_number y ≡ number_of (table_of system) (sig band letter) → x ≡ y
only_number_of system band letter p q = same_number_found _ _ (p ∙ sym q)

pub only_compare : (system band1 letter1 band2 letter2 : ℕ) {x y : Ordering} → told_order x ≡ order (table_of system) (sig band1 letter1) (sig band2 letter2)
    → told_order y ≡ order (table_of system) (sig band1 letter1) (sig band2 letter2) → x ≡ y
only_compare system band1 letter1 band2 letter2 p q = same_order _ _ (p ∙ sym q)

pub only_signal_of_1059 : (edition number : ℕ) {x y : Result (Option Signal) Refusal} → told_signal x ≡ named_signal1059 edition number → told_signal y ≡ named_signal1059 edition number → x ≡ y
only_signal_of_1059 edition number = only told_signal signal_one_to_one (named_signal1059 edition number)

pub only_number_of_1059 : (edition band letter : ℕ) {x y : Result (Option ℕ) Refusal} → told_number x ≡ named_number1059 edition (sig band letter)
    → told_number y ≡ named_number1059 edition (sig band letter) → x ≡ y
only_number_of_1059 edition band letter = only told_number number_one_to_one (named_number1059 edition (sig band letter))

-- ---- raw biases

pub only_metres_1059 : (raw : ℤ) {x y : Float} → x ≡ metres1059 raw → y ≡ metres1059 raw → x ≡ y
only_metres_1059 raw p q = p ∙ sym q

pub only_metres_1230 : (raw : ℤ) {x y : Float} → x ≡ metres1230 raw → y ≡ metres1230 raw → x ≡ y
only_metres_1230 raw p q = p ∙ sym q

pub only_hundredths_1059 : (raw : ℤ) {x y : ℤ} → x ≡ hundredths1059 raw → y ≡ hundredths1059 raw → x ≡ y
only_hundredths_1059 raw p q = p ∙ sym q

pub only_hundredths_1230 : (raw : ℤ) {x y : ℤ} → x ≡ hundredths1230 raw → y ≡ hundredths1230 raw → x ≡ y
only_hundredths_1230 raw p q = p ∙ sym q

-- ---- bias blocks

pub only_read_1059 : (s : List ℕ) (p : ℕ) (a b : List ℕ) (c : List ℤ) {x y : Result Records Refusal} {l m : List ℕ × List ℕ × List ℤ}
    → outcome (told_read x) l ≡ read1059 s p a b c → outcome (told_read y) m ≡ read1059 s p a b c → (x ≡ y) × (l ≡ m)
only_read_1059 s p a b c = only_read (read1059 s p a b c)

pub only_read_1230 : (s : List ℕ) (p : ℕ) (b : List ℕ) (c : List ℤ) {x y : Result Records Refusal} {l m : List ℕ × List ℤ}
    → outcome (told_read x) l ≡ read1230 s p b c → outcome (told_read y) m ≡ read1230 s p b c → (x ≡ y) × (l ≡ m)
only_read_1230 s p b c = only_read (read1230 s p b c)

pub only_write_1059 : (e : ℕ) (s : List ℕ) (p : ℕ) (sats gs : List ℕ) (zs : List ℤ) {x y : Result ℕ Refusal} {t u : List ℕ}
    → outcome (told_block x) t ≡ write1059 e s p sats gs zs → outcome (told_block y) u ≡ write1059 e s p sats gs zs → (x ≡ y) × (t ≡ u)
only_write_1059 e s p sats gs zs = only_block (write1059 e s p sats gs zs)

pub only_write_1230 : (s : List ℕ) (p : ℕ) (gs : List ℕ) (zs : List ℤ) {x y : Result ℕ Refusal} {t u : List ℕ}
    → outcome (told_block x) t ≡ write1230 s p gs zs → outcome (told_block y) u ≡ write1230 s p gs zs → (x ≡ y) × (t ≡ u)
only_write_1230 s p gs zs = only_block (write1230 s p gs zs)
