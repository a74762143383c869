-- An answer of the code is fixed by what it tells, and so by the statement. Assumes nothing.
use mathlib.Core.Path.{◌≡◌, refl}
use mathlib.Core.List.{List}
use Prim.Native.Nat.{ℕ}
use Rattle.std.specs.Prelude.{Result}
use Rattle.bits.specs.Told.{OneToOne}
use Rattle.bits.specs.declared.refusal.Refusal.{Refusal}
use Rattle.bits.specs.Outcome.{outcome}
use Rattle.bits.proofs.OutcomeLaws.{only_outcome}
use Rattle.bits.proofs.RefusalLaws.{told_one_to_one}
use Rattle.frames.proofs.ToldLaws.{injective}
use Rattle.frames.specs.Modes.{framing_of}
use Rattle.frames.specs.Call.{Scanner}
use Rattle.frames.specs.declared.scanner.Scanner as code
use Rattle.batch.specs.Batch as batch
use Rattle.batch.specs.Batch.{Areas, AllAnswer, feed_all_of}
use Rattle.batch.specs.Answers.{known_listed, told_all}
use Rattle.batch.specs.declared.feed.Listed.{Listed}

scanner : Scanner → code.Scanner
scanner x = record { count = x.count; taken = x.taken; mode = x.mode }

listed : AllAnswer → Listed
listed (batch.Frames n t s f i x) = record { count = n; taken = t; skipped = s; full = f; place = i; scanner = scanner x }

listed_again : (x : Listed) → listed (known_listed x) ≡ x
unfolding listed scanner
listed_again x = refl

pub all_one_to_one : OneToOne told_all
all_one_to_one = told_one_to_one known_listed (injective known_listed listed listed_again)

-- TWO ANSWERS that the statement of `feed_all` allows are equal, and so are the areas that they leave.
pub only_feed_all : (mode : ℕ) (a : Areas) (x : Scanner) (p : List ℕ) {r q : Result Listed Refusal} {b c : Areas}
    → outcome (told_all r) b ≡ feed_all_of (framing_of mode) a x p → outcome (told_all q) c ≡ feed_all_of (framing_of mode) a x p → (r ≡ q) × (b ≡ c)
only_feed_all mode a x p = only_outcome told_all all_one_to_one (feed_all_of (framing_of mode) a x p)
