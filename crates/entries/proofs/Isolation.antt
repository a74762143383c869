-- The law of isolation, of the calls over a list of entries. Assumes nothing.
use mathlib.Core.Path.{◌≡◌, sym, ap, subst, ◌∙◌}
use mathlib.Core.List.{List, ◌∷◌, map}
use mathlib.Core.Bool.{cond}
use mathlib.Core.Option.{Option}
use Prim.Native.Nat.{ℕ}
use lib.ListN.{length, length-map}
use lib.Dec.{eqb}
use Rattle.bits.specs.Outcome.{Outcome, outcome}
use Rattle.cache.specs.Cache.{Call, caller, Value, step}
use Rattle.cache.specs.Cache as C
use Rattle.cache.specs.Runs.{calls_of, answers_to, AllFree, NoFull}
use Rattle.cache.proofs.RunLaws.{answers_end, answers_on}
use Rattle.cache.proofs.Isolation as I
use Rattle.entries.specs.Entries.{numbers_of}
use Rattle.entries.specs.Runs.{Ran, ended, called}
use Rattle.entries.specs.declared.Entry.{Entry}

-- one call more, over entries and over their numbers
one : (p : ℕ) (l m : List Entry) (c : Call) (cs : List Call) (a : C.Answer) (rest : List C.Answer)
    → outcome a (map numbers_of m) ≡ step c (map numbers_of l) → rest ≡ answers_to p (map numbers_of m) cs
    → cond (eqb (caller c) p) (a ∷ rest) rest ≡ answers_to p (map numbers_of l) (c ∷ cs)
one p l m c cs a rest e h =
    ap (λ (x : List C.Answer). cond (eqb (caller c) p) (a ∷ x) x) h
    ∙ ap (λ (o : Outcome (Option Value) (List (List ℕ))). cond (eqb (caller c) p) (o.answer ∷ answers_to p o.areas cs) (answers_to p o.areas cs)) e
    ∙ sym (answers_on p (map numbers_of l) c cs)

-- a run answers what the run over the numbers of the entries answers
pub ran_answers : (p : ℕ) (l : List Entry) (cs : List Call) (given : List C.Answer) → Ran p l cs given → given ≡ answers_to p (map numbers_of l) cs
ran_answers p _ _ _ (ended l) = sym (answers_end p (map numbers_of l))
ran_answers p _ _ _ (called l m c cs a rest e run) = one p l m c cs a rest e (ran_answers p m cs rest run)

-- Two runs from lists of the same length with every entry free, in which provider p makes the same calls and no store of it
-- is answered Full, answer the same to it, whatever other providers do between.
pub isolation : (p : ℕ) (l m : List Entry) (cs ds : List Call) (given also : List C.Answer) → length l ≡ length m
    → AllFree (map numbers_of l) → AllFree (map numbers_of m) → calls_of p cs ≡ calls_of p ds
    → Ran p l cs given → Ran p m ds also → NoFull given → NoFull also → given ≡ also
isolation p l m cs ds given also len fl fm same-calls a b na nb =
    let x = ran_answers p l cs given a in
    let y = ran_answers p m ds also b in
    x ∙ I.isolation p (map numbers_of l) (map numbers_of m) cs ds (length-map l numbers_of ∙ len ∙ sym (length-map m numbers_of)) fl fm same-calls (subst NoFull x na) (subst NoFull y nb) ∙ sym y
