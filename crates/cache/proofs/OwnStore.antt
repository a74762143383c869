-- Over slots, a provider's answers are those of a store of its own, whatever others do between. Assumes nothing.
use mathlib.Core.Path.{◌≡◌, refl, sym, ap, ap₂, ◌∙◌, subst}
use mathlib.Core.List.{List, [], ◌∷◌}
use mathlib.Core.Option.{Option, none}
use mathlib.Core.Bool.{Bool, true, false, cond, not}
use Prim.Native.Nat.{ℕ}
use lib.ListN.{length}
use lib.Dec.{ltb, eqb}
use borrow.Author.Tests.{eqb-true, eqb-false}
use Rattle.bits.specs.Told.{range, size, full}
use Rattle.bits.specs.Outcome.{outcome}
use Rattle.cache.specs.Cache.{Key, Value, provider_of, Call, Store, Remove, Lookup, caller, Answer, fits}
use Rattle.cache.proofs.Slots.{Out, Slot, find, act, step, answers_to, NoneHeld}
use Rattle.cache.specs.Runs.{calls_of, NoFull}
use Rattle.cache.proofs.KeyLaws.{foreign}
use Rattle.cache.proofs.FindLaws.{Once, free_none, free_once}
use Rattle.cache.proofs.CallLaws.{wanted, changed, Effect, stuck, worked, act_effect, act_once, act_length}

-- ---- a store of a provider's own, with no places: what each key shows

-- a call that the length n or a number refuses, else what it does
abbrev guarded : {A : Type 0} → ℕ → Call → A → A → A → A
guarded n c large wide done = cond (ltb 512 n) large (cond (not (fits c)) wide done)

answer_of : ℕ → Call → (Key → Option Value) → Answer
answer_of n c f = guarded n c size (range 0) (wanted c f)

shows_after : ℕ → Call → (Key → Option Value) → Key → Option Value
shows_after n c f j = guarded n c (f j) (f j) (changed c j (f j))

own : ℕ → (Key → Option Value) → List Call → List Answer
own n f [] = []
own n f (c ∷ cs) = answer_of n c f ∷ own n (shows_after n c f) cs

-- the list shows the provider p what f says
pub record Shows (p : ℕ) (f : Key → Option Value) (l : List Slot) : Type 0 where
  pub shown : (j : Key) → provider_of j ≡ p → find j l ≡ f j

-- ---- one call

step_length : (c : Call) (l : List Slot) → length (step c l).areas ≡ length l
unfolding step
step_length c l = go (ltb 512 (length l)) (not (fits c))
  where
    go : (a b : Bool) → length (cond a (outcome size l) (cond b (outcome (range 0) l) (act c l))).areas ≡ length l
    go true b = refl
    go false true = refl
    go false false = act_length c l

step_once : (c : Call) (l : List Slot) → Once l → Once (step c l).areas
unfolding step
step_once c l o = go (ltb 512 (length l)) (not (fits c))
  where
    go : (a b : Bool) → Once (cond a (outcome size l) (cond b (outcome (range 0) l) (act c l))).areas
    go true b = o
    go false true = o
    go false false = act_once c l o

-- another provider's call changes nothing of what p is shown
untouched : (c : Call) (j : Key) (o : Option Value) → (caller c ≡ provider_of j → ⊥) → changed c j o ≡ o
untouched (Store k v) j o n = rw (foreign k j n)
untouched (Remove k) j o n = rw (foreign k j n)
untouched (Lookup k) j o n = refl

other_act : (c : Call) (l : List Slot) (j : Key) → Once l → (caller c ≡ provider_of j → ⊥) → find j (act c l).areas ≡ find j l
other_act c l j once n = go (act c l) (act_effect c l once)
  where
    go : (o : Out) → Effect c l o → find j o.areas ≡ find j l
    go o (stuck a e) = ap (find j) e
    go o (worked a e) = e j ∙ untouched c j (find j l) n

other_step : (c : Call) (l : List Slot) (j : Key) → Once l → (caller c ≡ provider_of j → ⊥) → find j (step c l).areas ≡ find j l
unfolding step
other_step c l j once n = go (ltb 512 (length l)) (not (fits c))
  where
    go : (a b : Bool) → find j (cond a (outcome size l) (cond b (outcome (range 0) l) (act c l))).areas ≡ find j l
    go true b = refl
    go false true = refl
    go false false = other_act c l j once n

-- the provider's own call
wanted_same : (p : ℕ) (c : Call) (f g : Key → Option Value) → caller c ≡ p → ((j : Key) → provider_of j ≡ p → f j ≡ g j) → wanted c f ≡ wanted c g
wanted_same p (Store k v) f g q h = refl
wanted_same p (Remove k) f g q h = ap Rattle.cache.proofs.CallLaws.removed (h k q)
wanted_same p (Lookup k) f g q h = ap Rattle.cache.specs.Cache.tell (h k q)

module _ (p : ℕ) (c : Call) (f : Key → Option Value) (l : List Slot) (q : caller c ≡ p) (once : Once l) (s : Shows p f l) where
  own_act : ((act c l).answer ≡ full → ⊥)
      → ((act c l).answer ≡ wanted c f) × ((j : Key) → provider_of j ≡ p → find j (act c l).areas ≡ changed c j (f j))
  own_act n = go (act c l) (act_effect c l once) n
    where
      go : (o : Out) → Effect c l o → (o.answer ≡ full → ⊥)
          → (o.answer ≡ wanted c f) × ((j : Key) → provider_of j ≡ p → find j o.areas ≡ changed c j (f j))
      go o (stuck a e) m = absurd (m a)
      go o (worked a e) m =
          (a ∙ wanted_same p c (λ k. find k l) f q s.shown, λ j r. e j ∙ ap (changed c j) (s.shown j r))

  own_step : ((step c l).answer ≡ full → ⊥) → ((step c l).answer ≡ answer_of (length l) c f) × Shows p (shows_after (length l) c f) (step c l).areas
  unfolding step answer_of shows_after
  own_step n = go (ltb 512 (length l)) (not (fits c)) n
    where
      go : (a b : Bool) → ((cond a (outcome size l) (cond b (outcome (range 0) l) (act c l))).answer ≡ full → ⊥)
          → ((cond a (outcome size l) (cond b (outcome (range 0) l) (act c l))).answer ≡ cond a size (cond b (range 0) (wanted c f)))
          × Shows p (λ j. cond a (f j) (cond b (f j) (changed c j (f j)))) (cond a (outcome size l) (cond b (outcome (range 0) l) (act c l))).areas
      go true b m = (refl, record { shown = s.shown })
      go false true m = (refl, record { shown = s.shown })
      go false false m = let d = own_act m in (d.0, record { shown = d.1 })

-- ---- a run

run : (p n : ℕ) (cs : List Call) (l : List Slot) (f : Key → Option Value) → length l ≡ n → Once l → Shows p f l → NoFull (answers_to p l cs)
    → answers_to p l cs ≡ own n f (calls_of p cs)
unfolding answers_to calls_of own NoFull
run p n [] l f len once s h = refl
run p n (c ∷ cs) l f len once s h =
    go (eqb (caller c) p) refl h
    (λ g t. run p n cs (step c l).areas g (step_length c l ∙ len) (step_once c l once) t)
  where
    go : (b : Bool) → eqb (caller c) p ≡ b
        → NoFull (cond b ((step c l).answer ∷ answers_to p (step c l).areas cs) (answers_to p (step c l).areas cs))
        → ((g : Key → Option Value) → Shows p g (step c l).areas → NoFull (answers_to p (step c l).areas cs) → answers_to p (step c l).areas cs ≡ own n g (calls_of p cs))
        → cond b ((step c l).answer ∷ answers_to p (step c l).areas cs) (answers_to p (step c l).areas cs) ≡ own n f (cond b (c ∷ calls_of p cs) (calls_of p cs))
    go true e k ih =
        let d = own_step p c f l (eqb-true (caller c) p e) once s k.0 in
        ap₂ (λ (a : Answer) (rest : List Answer). a ∷ rest) (d.0 ∙ ap (λ (m : ℕ). answer_of m c f) len)
        (ih (shows_after n c f) (subst (λ (m : ℕ). Shows p (shows_after m c f) (step c l).areas) len d.1) k.1)
    go false e k ih =
        ih f (record { shown = λ j r. other_step c l j once (λ z. eqb-false (caller c) p e (z ∙ r)) ∙ s.shown j r }) k

-- from entries that are all free, nothing is shown
fresh_run : (p n : ℕ) (cs : List Call) (l : List Slot) → length l ≡ n → NoneHeld l → NoFull (answers_to p l cs)
    → answers_to p l cs ≡ own n (λ k. none) (calls_of p cs)
fresh_run p n cs l len h nf = run p n cs l (λ k. none) len (free_once l h) (record { shown = λ j r. free_none j l h }) nf

-- two runs from lists of one length with every entry free, with the same calls of provider p in the same order, in neither of
-- which p is answered Full, give p the same answers
pub isolation : (p : ℕ) (l m : List Slot) (cs ds : List Call) → length l ≡ length m → NoneHeld l → NoneHeld m
    → calls_of p cs ≡ calls_of p ds → NoFull (answers_to p l cs) → NoFull (answers_to p m ds)
    → answers_to p l cs ≡ answers_to p m ds
isolation p l m cs ds len fl fm same-calls nl nm =
    fresh_run p (length m) cs l len fl nl
    ∙ ap (own (length m) (λ k. none)) same-calls
    ∙ sym (fresh_run p (length m) ds m refl fm nm)
