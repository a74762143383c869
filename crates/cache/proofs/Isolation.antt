-- The law of isolation: an entry of seven numbers means a slot, and each call on entries is that call on slots. Assumes nothing.
use mathlib.Core.Path.{◌≡◌, refl, sym, ap, ap₂, subst, ◌∙◌}
use mathlib.Core.List.{List, [], ◌∷◌}
use mathlib.Core.Option.{Option, none, some}
use mathlib.Core.Bool.{Bool, true, false, cond, not, ◌&&◌, false≢true}
use Prim.Native.Nat.{ℕ, zero, suc, ◌+◌, ◌-◌, ◌%◌, ◌^◌, ◌≤◌, ◌<◌}
use native.Mathlib.Omega.{arith}
use lib.ListN.{length, set}
use lib.Dec.{ltb, eqb}
use borrow.Author.Tests.{ltb-true, ltb-false, lt-ltb, le-ltb}
use Rattle.bits.specs.Told.{Accepted, range, size, full, absent}
use Rattle.bits.specs.Outcome.{Outcome, outcome}
use Rattle.cache.specs.Cache.{Key, key, same, Value, value, fits_key, fits_value, free, key_in, widened, value_in, has_key, entry_of, blank, first, find, Call, Store, Remove, Lookup, caller, fits, Answer, store_at, remove_at, tell, act, step}
use Rattle.cache.specs.Runs.{calls_of, answers_to, AllFree, NoFull}
use Rattle.cache.proofs.Slots as slot
use Rattle.cache.proofs.Slots.{Slot, held, NoneHeld}
use Rattle.cache.proofs.OwnStore as own

-- what an entry means
abbrev slot_of : List ℕ → Slot
slot_of e = cond (free e) slot.free (held (key_in e) (value_in e))

slots : List (List ℕ) → List Slot
slots [] = []
slots (e ∷ l) = slot_of e ∷ slots l

-- ---- one entry

has_means : (k : Key) (e : List ℕ) → slot.has k (slot_of e) ≡ has_key k e
unfolding has_key
has_means k e = go (free e)
  where
    go : (b : Bool) → slot.has k (cond b slot.free (held (key_in e) (value_in e))) ≡ cond b false (same (key_in e) k)
    go true = refl
    go false = refl

free_means : (e : List ℕ) → slot.is_free_slot (slot_of e) ≡ free e
free_means e = go (free e)
  where
    go : (b : Bool) → slot.is_free_slot (cond b slot.free (held (key_in e) (value_in e))) ≡ b
    go true = refl
    go false = refl

both : (a b : Bool) → a && b ≡ true → (a ≡ true) × (b ≡ true)
both true b e = (refl, e)
both false b e = absurd (false≢true e)

-- a bias that fits its field comes back from 16 bits
bias_back : (i b : ℕ) → fits_value (value i b) ≡ true → widened (b % 2 ^ 16) ≡ b
unfolding fits_value widened
bias_back i b f = go (ltb b (2 ^ 13)) refl (both (ltb i (2 ^ 4)) _ f).1
  where
    high : (c : Bool) → ltb b (2 ^ 32 - 2 ^ 13) ≡ c → cond c false (ltb b (2 ^ 32)) ≡ true
        → cond (ltb (b % 2 ^ 16) (2 ^ 15)) (b % 2 ^ 16) (b % 2 ^ 16 + (2 ^ 32 - 2 ^ 16)) ≡ b
    high true q n = absurd (false≢true n)
    high false q n =
        let l : 2 ^ 32 - 2 ^ 13 ≤ b = ltb-false b (2 ^ 32 - 2 ^ 13) q in
        let u : b < 2 ^ 32 = ltb-true b (2 ^ 32) n in
        let m : 2 ^ 15 ≤ b % 2 ^ 16 = omega arith in
        rw (le-ltb (b % 2 ^ 16) (2 ^ 15) m) (omega arith)

    go : (c : Bool) → ltb b (2 ^ 13) ≡ c → cond c true (cond (ltb b (2 ^ 32 - 2 ^ 13)) false (ltb b (2 ^ 32))) ≡ true
        → cond (ltb (b % 2 ^ 16) (2 ^ 15)) (b % 2 ^ 16) (b % 2 ^ 16 + (2 ^ 32 - 2 ^ 16)) ≡ b
    go true q n =
        let l : b < 2 ^ 13 = ltb-true b (2 ^ 13) q in
        let m : b % 2 ^ 16 < 2 ^ 15 = omega arith in
        rw (lt-ltb (b % 2 ^ 16) (2 ^ 15) m) (omega arith)
    go false q n = high (ltb b (2 ^ 32 - 2 ^ 13)) refl n

-- an entry that was written means its key and its value
entry_means : (k : Key) (v : Value) → fits_value v ≡ true → slot_of (entry_of k v) ≡ held k v
entry_means (key p s a g) (value i b) f = ap (λ (n : ℕ). held (key p s a g) (value i n)) (bias_back i b f)

-- ---- a list of entries

length_slots : (l : List (List ℕ)) → length (slots l) ≡ length l
unfolding slots
length_slots [] = refl
length_slots (e ∷ l) = ap suc (length_slots l)

first_slots : (t : Slot → Bool) (u : List ℕ → Bool) → ((e : List ℕ) → t (slot_of e) ≡ u e) → (l : List (List ℕ)) → first t (slots l) ≡ first u l
unfolding slots first
first_slots t u h [] = refl
first_slots t u h (e ∷ l) = ap₂ (λ (b : Bool) (n : ℕ). cond b 0 (suc n)) (h e) (first_slots t u h l)

set_slots : (l : List (List ℕ)) (i : ℕ) (e : List ℕ) → slots (set l i e) ≡ set (slots l) i (slot_of e)
unfolding slots
set_slots [] i e = refl
set_slots (d ∷ l) zero e = refl
set_slots (d ∷ l) (suc i) e = ap (λ (t : List Slot). slot_of d ∷ t) (set_slots l i e)

find_slots : (k : Key) (l : List (List ℕ)) → slot.find k (slots l) ≡ find k l
unfolding slots find slot.find has_key
find_slots k [] = refl
find_slots k (e ∷ l) = go (free e) (find_slots k l)
  where
    go : (b : Bool) → slot.find k (slots l) ≡ find k l
        → slot.find k (cond b slot.free (held (key_in e) (value_in e)) ∷ slots l) ≡ cond (cond b false (same (key_in e) k)) (some (value_in e)) (find k l)
    go true h = h
    go false h = ap (cond (same (key_in e) k) (some (value_in e))) h

-- ---- one call

-- the outcome of a call on entries, as one on slots
abbrev meant : Outcome (Option Value) (List (List ℕ)) → slot.Out
meant o = outcome o.answer (slots o.areas)

store_means : (i j : ℕ) (e : List ℕ) (x : Slot) (l : List (List ℕ)) → slot_of e ≡ x → store_at i j x (slots l) ≡ meant (store_at i j e l)
unfolding store_at
store_means i j e x l q = go (ltb i (length l)) (ltb j (length l)) (ap (ltb i) (length_slots l)) (ap (ltb j) (length_slots l))
  where
    put : (n : ℕ) → set (slots l) n x ≡ slots (set l n e)
    put n = ap (set (slots l) n) (sym q) ∙ sym (set_slots l n e)

    go : (a b : Bool) → ltb i (length (slots l)) ≡ a → ltb j (length (slots l)) ≡ b
        → cond (ltb i (length (slots l))) (outcome (Accepted none) (set (slots l) i x)) (cond (ltb j (length (slots l))) (outcome (Accepted none) (set (slots l) j x)) (outcome full (slots l)))
        ≡ meant (cond a (outcome (Accepted none) (set l i e)) (cond b (outcome (Accepted none) (set l j e)) (outcome full l)))
    go true b p r = rw p (ap (outcome (Accepted none)) (put i))
    go false true p r = rw (p, r) (ap (outcome (Accepted none)) (put j))
    go false false p r = rw (p, r) refl

remove_means : (i : ℕ) (l : List (List ℕ)) → remove_at i slot.free (slots l) ≡ meant (remove_at i blank l)
unfolding remove_at
remove_means i l = go (ltb i (length l)) (ap (ltb i) (length_slots l))
  where
    go : (a : Bool) → ltb i (length (slots l)) ≡ a
        → cond (ltb i (length (slots l))) (outcome (Accepted none) (set (slots l) i slot.free)) (outcome absent (slots l))
        ≡ meant (cond a (outcome (Accepted none) (set l i blank)) (outcome absent l))
    go true p = rw p (ap (outcome (Accepted none)) (sym (set_slots l i blank)))
    go false p = rw p refl

act_means : (c : Call) (l : List (List ℕ)) → fits c ≡ true → slot.act c (slots l) ≡ meant (act c l)
unfolding act slot.act
act_means (Store k v) l f =
    ap₂ (λ (i j : ℕ). store_at i j (held k v) (slots l)) (first_slots (slot.has k) (has_key k) (has_means k) l) (first_slots slot.is_free_slot free free_means l)
    ∙ store_means (first (has_key k) l) (first free l) (entry_of k v) (held k v) l (entry_means k v (both (fits_key k) (fits_value v) f).1)
act_means (Remove k) l f =
    ap (λ (i : ℕ). remove_at i slot.free (slots l)) (first_slots (slot.has k) (has_key k) (has_means k) l)
    ∙ remove_means (first (has_key k) l) l
act_means (Lookup k) l f = ap (λ (o : Option Value). outcome (tell o) (slots l)) (find_slots k l)

step_means : (c : Call) (l : List (List ℕ)) → slot.step c (slots l) ≡ meant (step c l)
unfolding step slot.step
step_means c l = ap (λ (n : ℕ). cond (ltb 512 n) (outcome size (slots l)) (cond (not (fits c)) (outcome (range 0) (slots l)) (slot.act c (slots l)))) (length_slots l) ∙ go (ltb 512 (length l)) (fits c) refl
  where
    go : (a b : Bool) → fits c ≡ b → cond a (outcome size (slots l)) (cond (not b) (outcome (range 0) (slots l)) (slot.act c (slots l)))
        ≡ meant (cond a (outcome size l) (cond (not b) (outcome (range 0) l) (act c l)))
    go true b p = refl
    go false true p = act_means c l p
    go false false p = refl

-- ---- runs

answers_mean : (p : ℕ) (cs : List Call) (l : List (List ℕ)) → slot.answers_to p (slots l) cs ≡ answers_to p l cs
unfolding answers_to slot.answers_to
answers_mean p [] l = refl
answers_mean p (c ∷ cs) l =
    ap₂ (λ (a : Answer) (rest : List Answer). cond (eqb (caller c) p) (a ∷ rest) rest)
    (ap (λ (o : slot.Out). o.answer) (step_means c l))
    (ap (λ (o : slot.Out). slot.answers_to p o.areas cs) (step_means c l) ∙ answers_mean p cs (step c l).areas)

none_held : (l : List (List ℕ)) → AllFree l → NoneHeld (slots l)
unfolding AllFree NoneHeld slots
none_held [] h = tt
none_held (e ∷ l) h = go (free e) h.0 (none_held l h.1)
  where
    go : (b : Bool) → b ≡ true → NoneHeld (slots l) → NoneHeld (cond b slot.free (held (key_in e) (value_in e)) ∷ slots l)
    go true q t = t
    go false q t = absurd (false≢true q)

-- The law of isolation. Two runs from lists of the same length with every entry free that give provider p the same calls in the same order, and in which no call of p is answered Full, give p the same answers, whatever other providers do between.
pub isolation : (p : ℕ) (l m : List (List ℕ)) (cs ds : List Call) → length l ≡ length m → AllFree l → AllFree m
    → calls_of p cs ≡ calls_of p ds → NoFull (answers_to p l cs) → NoFull (answers_to p m ds)
    → answers_to p l cs ≡ answers_to p m ds
isolation p l m cs ds len fl fm same-calls nl nm =
    sym (answers_mean p cs l)
    ∙ own.isolation p (slots l) (slots m) cs ds (length_slots l ∙ len ∙ sym (length_slots m)) (none_held l fl) (none_held m fm) same-calls
    (subst NoFull (sym (answers_mean p cs l)) nl) (subst NoFull (sym (answers_mean p ds m)) nm)
    ∙ answers_mean p ds m
