-- The bias block of message 1059 by its format: it keeps to the laws of formats, and is what the code reads and puts one by one. Assumes nothing.
use mathlib.Core.Path.{◌≡◌, refl, sym, ap, ◌∙◌}
use mathlib.Core.Bool.{cond}
use mathlib.Core.List.{List, [], ◌∷◌}
use Prim.Native.Nat.{ℕ, zero, suc, ◌+◌}
use native.Mathlib.Omega.{arith}
use borrow.Author.Tests.{ne_eqb}
use lib.ListN.{length}
use lib.IntN.{ℤ}
use lib.Dec.{eqb}
use Rattle.bits.specs.Told.{Told, Accepted, Refused, and_then}
use Rattle.bits.specs.Field.{Reading, reading}
use Rattle.bits.specs.Fields.{bits}
use Rattle.formats.specs.Format.{Format, read_each}
use Rattle.formats.proofs.TimesLaws.{each_none, each_next}
use Rattle.formats.proofs.GoodLaws.{Good, unsigned_good, twos_good, then_good, counted_good}
use Rattle.messages.specs.Every.{gather}
use Rattle.messages.specs.Reader.{as_records}
use Rattle.messages.specs.Records.{Rec1059}
use Rattle.messages.specs.Layout1059.{satellite1059, block1059, Sat, of_bias, of_sat, of_satellite, with_some, grouped_from}
use Rattle.messages.specs.Write1059.{present, fields1059}
use Rattle.messages.specs.StepsRead.{before, many}
use Rattle.messages.specs.StepsWrite1059.{satellites_from}

-- what is written reads back, what was read stands there, and nothing but Short is refused
pub satellite_good : Good satellite1059
satellite_good =
    then_good (unsigned_good 6 (omega arith) (omega arith))
    (counted_good 5 (omega arith) (omega arith)
    (then_good (unsigned_good 5 (omega arith) (omega arith)) (twos_good 14 (omega arith) (omega arith))))

pub block_good : Good block1059
block_good = counted_good 6 (omega arith) (omega arith) satellite_good

-- ---- reading

-- a reader called again and again is the format so many times
pub many_same : {A B : Type 0} (F : Format A) (g : A → List B) (s : List ℕ) (n p : ℕ) → many (λ q. as_records g (F.reads s q)) n p ≡ as_records (gather g) (read_each F n s p)
unfolding many gather
many_same F g s zero p = ap (as_records (gather g)) (sym (each_none F s p))
many_same {A} {B} F g s (suc n) p = first (F.reads s p) (many_same F g s n) ∙ ap (as_records (gather g)) (sym (each_next F n s p))
  where
    last : (x : A) (t : Told (Reading (List A))) → before (g x) (as_records (gather g) t) ≡ as_records (gather g) (and_then t (λ xs. Accepted (reading (x ∷ xs.value) xs.next)))
    last x (Accepted xs) = refl
    last x (Refused m carried) = refl

    first : (t : Told (Reading A)) → ((q : ℕ) → many (λ q. as_records g (F.reads s q)) n q ≡ as_records (gather g) (read_each F n s q))
        → and_then (as_records g t) (λ xs. before xs.value (many (λ q. as_records g (F.reads s q)) n xs.next))
        ≡ as_records (gather g) (and_then t (λ x. and_then (read_each F n s x.next) (λ xs. Accepted (reading (x.value ∷ xs.value) xs.next))))
    first (Accepted x) ih = ap (before (g x.value)) (ih x.next) ∙ last x.value (read_each F n s x.next)
    first (Refused m carried) ih = refl

-- what is read behind a count, and behind a satellite's number and the count of its biases
pub behind_count : {A B : Type 0} (g : List A → List B) (n : ℕ) (t : Told (Reading (List A)))
    → as_records g (and_then (and_then t (λ xs. Accepted (reading {A = ℕ × List A} (n, xs.value) xs.next))) (λ x. Accepted (reading x.value.1 x.next))) ≡ as_records g t
behind_count g n (Accepted xs) = refl
behind_count g n (Refused m carried) = refl

pub behind_both : (a n : ℕ) (t : Told (Reading (List (ℕ × ℤ))))
    → as_records of_sat (and_then (and_then (and_then t (λ xs. Accepted (reading {A = ℕ × List (ℕ × ℤ)} (n, xs.value) xs.next))) (λ x. Accepted (reading x.value.1 x.next)))
    (λ b. Accepted (reading {A = Sat} (a, b.value) b.next)))
    ≡ as_records (gather (of_bias a)) t
behind_both a n (Accepted xs) = refl
behind_both a n (Refused m carried) = refl

-- ---- writing

some_count : (a : ℕ) (rs : List Rec1059) (xs : List Sat) → length (with_some a rs xs) ≡ cond (eqb (length rs) 0) 0 1 + length xs
unfolding with_some
some_count a [] xs = omega arith
some_count a (r ∷ rs) xs = rw (ne_eqb (length (r ∷ rs)) 0 (λ e. omega arith)) (omega arith)

-- how many satellites have records
pub same_count : (rs : List Rec1059) (n a : ℕ) → length (grouped_from a n rs) ≡ present a n rs
unfolding grouped_from present
same_count rs zero a = refl
same_count rs (suc n) a =
    some_count a (of_satellite a rs) (grouped_from (suc a) n rs) ∙ ap (λ (k : ℕ). cond (eqb (length (of_satellite a rs)) 0) 0 1 + k) (same_count rs n (suc a))

pub fields_laid : (rs : List Rec1059) → fields1059 rs ≡ bits 6 (present 0 64 rs) ∷ satellites_from 0 64 rs
unfolding fields1059 satellites_from
fields_laid rs = ap (λ (n : ℕ). bits 6 n ∷ satellites_from 0 64 rs) (same_count rs 64 0)
