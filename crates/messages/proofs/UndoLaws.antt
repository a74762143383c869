-- Number to signal and signal to number undo each other, in every table. Assumes nothing.
use mathlib.Core.Path.{◌≡◌, refl, sym, ap, subst}
use mathlib.Core.Bool.{Bool, true, false, cond, ◌&&◌}
use mathlib.Core.List.{List, [], ◌∷◌, Memᴰ}
use Prim.Native.Nat.{ℕ}
use native.Mathlib.Omega.{arith}
use borrow.Author.Tests.{eqb-true}
use lib.Dec.{T, eqb, eqb→eq}
use Rattle.messages.specs.Signals.{Signal, sig, Entry, entry, Found, At, None, signal_of, number_of, Undoes, tables, table_of, gps, glo, gal, sbas, qzss, bds, navic}
use Rattle.messages.specs.Signals1059.{edition1, edition2, editions, signals1059}
use Rattle.messages.proofs.TestLaws.{left, right, all, all_member, all_place}

-- ---- the test

abbrev is_signal : ℕ → ℕ → Found Signal → Bool
is_signal b l (At (sig c m)) = eqb c b && eqb m l
is_signal b l None = false

abbrev is_number : ℕ → Found ℕ → Bool
is_number n (At m) = eqb m n
is_number n None = false

-- one entry of a table, there and back
abbrev undone : List Entry → Entry → Bool
undone t (entry n b l) = is_signal b l (signal_of t n) && is_number n (number_of t (sig b l))

-- every entry of a table
abbrev undoing : List Entry → Bool
undoing t = all (undone t) t

-- the test over every entry of every table: of the seven systems, and of the editions of the 1059 signals
every_entry : T (all undoing tables && all undoing editions)
unfolding gps glo gal sbas qzss bds navic edition1 edition2 signal_of number_of
every_entry = tt

-- ---- number to signal and signal to number undo each other at each entry

is_signal_lem : (b l : ℕ) (f : Found Signal) → T (is_signal b l f) → f ≡ At (sig b l)
is_signal_lem b l (At (sig c m)) h =
    let p : c ≡ b = eqb→eq c b (left (eqb c b) (eqb m l) h) in
    let q : m ≡ l = eqb→eq m l (right (eqb c b) (eqb m l) h) in
    cc
is_signal_lem b l None h = absurd h

is_number_lem : (n : ℕ) (f : Found ℕ) → T (is_number n f) → f ≡ At n
is_number_lem n (At m) h = ap At (eqb→eq m n h)
is_number_lem n None h = absurd h

undoes : (t : List Entry) → T (undoing t) → Undoes t
undoes t h =
    record {
      there = λ {n} {b} {l} m. is_signal_lem b l (signal_of t n) (left (is_signal b l (signal_of t n)) (is_number n (number_of t (sig b l))) (all_member (undone t) t h m));
      back = λ {n} {b} {l} m. is_number_lem n (number_of t (sig b l)) (right (is_signal b l (signal_of t n)) (is_number n (number_of t (sig b l))) (all_member (undone t) t h m));
    }

-- in the table of every system
pub table_undoes : (system : ℕ) → Undoes (table_of system)
unfolding table_of
table_undoes system =
    undoes (table_of system) (all_place undoing tables [] (left (all undoing tables) (all undoing editions) every_entry) tt system)

-- in every edition of the 1059 signals
pub edition_undoes : (edition : ℕ) → Undoes (signals1059 edition)
unfolding signals1059
edition_undoes edition =
    undoes (signals1059 edition) (all_place undoing editions [] (right (all undoing tables) (all undoing editions) every_entry) tt edition)

-- ---- what is found stands in the table

none_at : {A : Type 0} {a : A} → None ≡ At a → ⊥
none_at e = let z : ◌≡◌ {A = ℕ} 0 1 = cc in omega arith

signal_line : (m c k : ℕ) (t : List Entry) (n b l : ℕ) → (signal_of t n ≡ At (sig b l) → Memᴰ (entry n b l) t) → (q : Bool) → eqb m n ≡ q → cond q (At (sig c k)) (signal_of t n) ≡ At (sig b l) → Memᴰ (entry n b l) (entry m c k ∷ t)
signal_line m c k t n b l more true f e =
    let p : m ≡ n = eqb-true m n f in
    let s : entry n b l ≡ entry m c k = cc in
    Memᴰ.head s
signal_line m c k t n b l more false f e = Memᴰ.tail (more e)

pub signal_member : (t : List Entry) (n b l : ℕ) → signal_of t n ≡ At (sig b l) → Memᴰ (entry n b l) t
unfolding signal_of
signal_member [] n b l e = absurd (none_at e)
signal_member (entry m c k ∷ t) n b l e = signal_line m c k t n b l (λ f. signal_member t n b l f) (eqb m n) refl e

number_line : (m c k : ℕ) (t : List Entry) (n b l : ℕ) → (number_of t (sig b l) ≡ At n → Memᴰ (entry n b l) t) → (q : Bool) → (eqb c b && eqb k l) ≡ q → cond q (At m) (number_of t (sig b l)) ≡ At n → Memᴰ (entry n b l) (entry m c k ∷ t)
number_line m c k t n b l more true f e =
    let h : T (eqb c b && eqb k l) = subst T (sym f) tt in
    let p : c ≡ b = eqb→eq c b (left (eqb c b) (eqb k l) h) in
    let q : k ≡ l = eqb→eq k l (right (eqb c b) (eqb k l) h) in
    let s : entry n b l ≡ entry m c k = cc in
    Memᴰ.head s
number_line m c k t n b l more false f e = Memᴰ.tail (more e)

pub number_member : (t : List Entry) (n b l : ℕ) → number_of t (sig b l) ≡ At n → Memᴰ (entry n b l) t
unfolding number_of
number_member [] n b l e = absurd (none_at e)
number_member (entry m c k ∷ t) n b l e = number_line m c k t n b l (λ f. number_member t n b l f) (eqb c b && eqb k l) refl e

-- ---- so each way is undone by the other, whatever was asked

pub signal_then_number : (t : List Entry) → Undoes t → (n b l : ℕ) → signal_of t n ≡ At (sig b l) → number_of t (sig b l) ≡ At n
signal_then_number t u n b l e = u.back (signal_member t n b l e)

pub number_then_signal : (t : List Entry) → Undoes t → (n b l : ℕ) → number_of t (sig b l) ≡ At n → signal_of t n ≡ At (sig b l)
number_then_signal t u n b l e = u.there (number_member t n b l e)
