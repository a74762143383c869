-- For each public function: two answers that its statement allows are equal, and so are the lent areas that two runs leave. Assumes nothing.
use mathlib.Core.Path.{◌≡◌, ap}
use mathlib.Core.List.{List}
use Prim.Native.Nat.{ℕ}
use Rattle.std.specs.Prelude.{Result}
use lib.IntN.{ℤ}
use Rattle.bits.specs.Told.{OneToOne}
use Rattle.bits.specs.Outcome.{outcome}
use Rattle.bits.proofs.OutcomeLaws.{only_outcome}
use Rattle.bits.proofs.RefusalLaws.{told_one_to_one}
use Rattle.messages.specs.Answers.{told_block}
use Rattle.bits.specs.declared.refusal.Refusal.{Refusal}
use Rattle.messages.proofs.ToldLaws.{only_block}
use Rattle.whole.specs.Whole.{Whole, whole}
use Rattle.whole.specs.Answers.{told_message1059, told_message1230}
use Rattle.whole.specs.Messages.{read_message1059, write_message1059, read_message1230, write_message1230}
use Rattle.whole.specs.declared.answer.Header1059.{Header1059}
use Rattle.whole.specs.declared.answer.Message1059.{Message1059}
use Rattle.whole.specs.declared.answer.Header1230.{Header1230}
use Rattle.whole.specs.declared.answer.Message1230.{Message1230}

-- ---- an answer is fixed by what it tells

one1059 : (x y : Message1059) → whole x.header x.count x.end ≡ whole y.header y.count y.end → x ≡ y
one1059 x y e = ap (λ (w : Whole Header1059). record { header = w.header; count = w.count; end = w.end }) e

one_to_one_1059 : OneToOne told_message1059
one_to_one_1059 = told_one_to_one (λ m. whole m.header m.count m.end) one1059

one1230 : (x y : Message1230) → whole x.header x.count x.end ≡ whole y.header y.count y.end → x ≡ y
one1230 x y e = ap (λ (w : Whole Header1230). record { header = w.header; count = w.count; end = w.end }) e

one_to_one_1230 : OneToOne told_message1230
one_to_one_1230 = told_one_to_one (λ m. whole m.header m.count m.end) one1230

-- ---- each public function

pub only_read_message_1059 : (s a b : List ℕ) (c : List ℤ) {x y : Result Message1059 Refusal} {l m : List ℕ × List ℕ × List ℤ}
    → outcome (told_message1059 x) l ≡ read_message1059 s a b c → outcome (told_message1059 y) m ≡ read_message1059 s a b c → (x ≡ y) × (l ≡ m)
only_read_message_1059 s a b c = only_outcome told_message1059 one_to_one_1059 (read_message1059 s a b c)

pub only_write_message_1059 : (e : ℕ) (s : List ℕ) (h : Header1059) (sats gs : List ℕ) (zs : List ℤ) {x y : Result ℕ Refusal} {t u : List ℕ}
    → outcome (told_block x) t ≡ write_message1059 e s h sats gs zs → outcome (told_block y) u ≡ write_message1059 e s h sats gs zs → (x ≡ y) × (t ≡ u)
only_write_message_1059 e s h sats gs zs = only_block (write_message1059 e s h sats gs zs)

pub only_read_message_1230 : (s b : List ℕ) (c : List ℤ) {x y : Result Message1230 Refusal} {l m : List ℕ × List ℤ}
    → outcome (told_message1230 x) l ≡ read_message1230 s b c → outcome (told_message1230 y) m ≡ read_message1230 s b c → (x ≡ y) × (l ≡ m)
only_read_message_1230 s b c = only_outcome told_message1230 one_to_one_1230 (read_message1230 s b c)

pub only_write_message_1230 : (s : List ℕ) (h : Header1230) (gs : List ℕ) (zs : List ℤ) {x y : Result ℕ Refusal} {t u : List ℕ}
    → outcome (told_block x) t ≡ write_message1230 s h gs zs → outcome (told_block y) u ≡ write_message1230 s h gs zs → (x ≡ y) × (t ≡ u)
only_write_message_1230 s h gs zs = only_block (write_message1230 s h gs zs)
