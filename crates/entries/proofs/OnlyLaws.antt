-- Two answers that the statement of a call allows are equal, and so are the lists of entries that it leaves. Assumes nothing.
use mathlib.Core.Path.{◌≡◌, refl, sym, ap, ◌∙◌}
use mathlib.Core.List.{List, [], ◌∷◌, map}
use mathlib.Core.Option.{Option}
use Prim.Native.Nat.{ℕ}
use lib.ListN.{get_or}
use Rattle.bits.specs.Told.{OneToOne}
use Rattle.bits.specs.Outcome.{Outcome, outcome}
use Rattle.bits.proofs.RefusalLaws.{told_one_to_one}
use Rattle.cache.specs.Cache.{Value}
use Rattle.cache.specs.Cache as C
use Rattle.entries.specs.Entries.{numbers_of, told_answer}
use Rattle.entries.specs.declared.Entry.{Entry}

-- (what a lookup tells is one to one by cache's `found_one_to_one`)
pub answer_one_to_one : OneToOne told_answer
answer_one_to_one = told_one_to_one (λ done. _) (λ x y e. refl)

-- the entry of seven numbers
entry_in : List ℕ → Entry
entry_in l = record { in_use = get_or l 0 0; provider = get_or l 1 0; solution = get_or l 2 0; satellite = get_or l 3 0; signal = get_or l 4 0; iod = get_or l 5 0; bias = get_or l 6 0 }

entries_again : (l : List Entry) → map entry_in (map numbers_of l) ≡ l
unfolding entry_in
entries_again [] = refl
entries_again (e ∷ l) = ap (λ (m : List Entry). e ∷ m) (entries_again l)

pub same_entries : (l m : List Entry) → map numbers_of l ≡ map numbers_of m → l ≡ m
same_entries l m e = sym (entries_again l) ∙ ap (map entry_in) e ∙ entries_again m

-- of each of the three calls: x is what its statement names, and `told` what its answer tells
pub only_called : {R : Type 0} (told : R → C.Answer) → OneToOne told → (x : Outcome (Option Value) (List (List ℕ))) (r s : R) (l m : List Entry)
    → outcome (told r) (map numbers_of l) ≡ x → outcome (told s) (map numbers_of m) ≡ x → (r ≡ s) × (l ≡ m)
only_called told one x r s l m a b =
    let e = a ∙ sym b in
    (one.same (ap (λ (o : Outcome (Option Value) (List (List ℕ))). o.answer) e), same_entries l m (ap (λ (o : Outcome (Option Value) (List (List ℕ))). o.areas) e))
