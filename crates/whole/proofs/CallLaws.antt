-- What an accepted call over a whole message tells of its steps, and what a refused one keeps, for both messages. Assumes nothing.
use mathlib.Core.Path.{◌≡◌, refl, sym, ap, ◌∙◌}
use mathlib.Core.Bool.{Bool, true, false, cond}
use mathlib.Core.Logic.{inr}
use mathlib.Core.List.{List}
use Prim.Native.Nat.{ℕ, ◌+◌, ◌-◌, ◌*◌, ◌≤◌, ◌<◌}
use native.Mathlib.Decide.{dec_lt}
use native.Mathlib.Omega.{arith}
use lib.Dec.{eqb}
use lib.ListN.{get_or, length}
use Rattle.bits.specs.Told.{Told, Accepted, Refused, room}
use Rattle.bits.specs.Outcome.{Outcome, outcome, refusing}
use Rattle.bits.specs.Field.{bit_at}
use Rattle.bits.specs.Fields.{Field, total, put_all, Holds}
use Rattle.bits.proofs.FieldsLaws.{put_all_outside}
use Rattle.bits.proofs.OutcomeLaws.{Keeps, accepted_keeps}
use Rattle.messages.specs.Records.{Counted, counted}
use Rattle.formats.specs.WrittenBack.{WrittenBack}
use Rattle.formats.proofs.StandLaws.{put_back}
use Rattle.whole.specs.Whole.{Whole, whole, headed, raised, before, fronted}

-- ---- what was accepted

-- a step that was accepted, and the outcome of what came behind it
pub record Went {A B S : Type 0} (s : S) (t : Told A) (f : A → Outcome B S) (b : B) : Type 0 where
  pub value : A
  pub is : t ≡ Accepted value
  pub then : (f value).answer ≡ Accepted b
  pub all : refusing s t f ≡ f value

pub went : {A B S : Type 0} (s : S) (t : Told A) (f : A → Outcome B S) {b : B} → (refusing s t f).answer ≡ Accepted b → Went s t f b
went s (Accepted a) f e = record { value = a; is = refl; then = e; all = refl }
went s (Refused n carried) f e = let z : ◌≡◌ {A = ℕ} 0 1 = cc in absurd (omega arith)

-- a block that was read, with the header of its message
pub headed_accepted : {H : Type 0} (h : H) (t : Told Counted) {g : H} {n q : ℕ} → headed h t ≡ Accepted (whole g n q) → (t ≡ Accepted (counted n q)) × (h ≡ g)
headed_accepted {H} h (Accepted c) {g} {n} {q} e =
    let i : whole h c.count c.end ≡ whole g n q = cc e in
    (ap (λ (w : Whole H). Accepted (counted w.count w.end)) i, ap (λ (w : Whole H). w.header) i)
headed_accepted h (Refused n carried) e = let z : ◌≡◌ {A = ℕ} 0 1 = cc in absurd (omega arith)

-- a refusal of the block is no acceptance of the message
not_behind : (b : Bool) (x k : ℕ) (carried : List ℕ) {q : ℕ} → cond b (room x) (Refused k carried) ≡ Accepted q → ⊥
not_behind true x k carried e = let z : ◌≡◌ {A = ℕ} 0 1 = cc in omega arith
not_behind false x k carried e = let z : ◌≡◌ {A = ℕ} 0 1 = cc in omega arith

-- a block that was written, and the front before it
pub fronted_accepted : (n : ℕ) (fs : List Field) (o : Outcome ℕ (List ℕ)) {q : ℕ} → (fronted n fs o).answer ≡ Accepted q
    → (o.answer ≡ Accepted q) × ((fronted n fs o).areas ≡ put_all o.areas 0 fs)
fronted_accepted n fs o {q} e = go o.answer o.areas e
  where
    go : (t : Told ℕ) (u : List ℕ) → (before n fs t u).answer ≡ Accepted q → (t ≡ Accepted q) × ((before n fs t u).areas ≡ put_all u 0 fs)
    go (Accepted p) u i = (i, refl)
    go (Refused k carried) u i = absurd (not_behind (eqb k 8) (raised n (get_or carried 0 0)) k carried i)

-- ---- what was refused

pub fronted_keeps : (n : ℕ) (fs : List Field) (s : List ℕ) (o : Outcome ℕ (List ℕ)) → Keeps s o → Keeps s (fronted n fs o)
fronted_keeps n fs s o k = go o.answer refl
  where
    go : (t : Told ℕ) → o.answer ≡ t → Keeps s (before n fs t o.areas)
    go (Accepted q) i = accepted_keeps s q (put_all o.areas 0 fs)
    go (Refused m carried) i = record { kept = λ e. k.kept i }

pub headed_keeps : {H S : Type 0} (h : H) (came : S) (o : Outcome Counted S) → Keeps came o → Keeps came (outcome (headed h o.answer) o.areas)
headed_keeps {H} {S} h came o k = go o.answer refl
  where
    go : (t : Told Counted) → o.answer ≡ t → Keeps came (outcome (headed h t) o.areas)
    go (Accepted c) i = accepted_keeps came (whole h c.count c.end) o.areas
    go (Refused m carried) i = record { kept = λ e. k.kept i }

-- ---- what is written back

-- a message whose front of p bits stands in s, and whose block behind it has the bits of s, has all bits of s
pub fronted_back : (s : List ℕ) (p q : ℕ) (t : List ℕ) (fs : List Field) {call : Outcome ℕ (List ℕ)} → p ≤ q → total fs ≡ p → Holds s 0 fs → p ≤ length t * 8
    → ((k : ℕ) → k < q - p → bit_at t (p + k) ≡ bit_at s (p + k)) → outcome (Accepted (p + (q - p))) (put_all t 0 fs) ≡ call → WrittenBack s 0 q 0 call
fronted_back s p q t fs {call} past long stands room block is =
    record {
      end = ap (λ (o : Outcome ℕ (List ℕ)). o.answer) (sym is) ∙ ap (λ (n : ℕ). Accepted n) all;
      same = λ k l. ap (λ (o : Outcome ℕ (List ℕ)). bit_at o.areas (0 + k)) (sym is) ∙ bit k l (dec_lt k p);
    }
  where
    all : p + (q - p) ≡ 0 + (q - 0)
    all = omega (arith, past)

    bit : (k : ℕ) → k < q - 0 → Dec (k < p) → bit_at (put_all t 0 fs) (0 + k) ≡ bit_at s (0 + k)
    bit k l (yes h) = (put_back s 0 p t 0 fs {call = outcome (Accepted (0 + total fs)) (put_all t 0 fs)} stands (omega (arith, long)) (omega (arith, long, room)) refl).same k (omega (arith, h))
    bit k l (no h) =
        let e : 0 + k ≡ p + (k - p) = omega (arith, h) in
        put_all_outside t 0 fs (0 + k) (omega (arith, long, room)) (inr (omega (arith, long, h)))
        ∙ ap (bit_at t) e
        ∙ block (k - p) (omega (arith, h, l, past))
        ∙ ap (bit_at s) (sym e)
