-- What a call refuses and accepts: an equation for each case. Assumes nothing.
use mathlib.Core.Path.{◌≡◌, refl, sym, ap, ◌∙◌}
use mathlib.Core.Bool.{Bool, true, false, cond, not}
use mathlib.Core.List.{List, [], ◌∷◌}
use Prim.Native.Nat.{ℕ, ◌+◌, ◌^◌, ◌≤◌, ◌<◌}
use native.Mathlib.Omega.{arith}
use Rattle.std.specs.Prelude.{Result, Ok, Err}
use lib.ListN.{length, take}
use lib.Dec.{ltb, eqb}
use borrow.Author.Tests.{ltb-false, eqb-true, not-false, lt-ltb, le-ltb, eq-eqb, ne_eqb}
use Rattle.bits.specs.Told.{Told, Accepted, Refused, size, state, room}
use Rattle.bits.specs.Refusals.{number_of, carried_by}
use Rattle.bits.specs.declared.refusal.Refusal.{Refusal}
use Rattle.bits.specs.Outcome.{Outcome, outcome, refusing}
use Rattle.bits.proofs.OutcomeLaws.{Keeps, accepted_keeps, refusing_keeps, not_refused}
use Rattle.frames.specs.Framing.{Framing, decide}
use Rattle.frames.specs.Feed as fed
use Rattle.frames.specs.Feed.{Fed, feed}
use Rattle.frames.specs.Call.{Scanner, FedAnswer, FedOutcome, called, order_of, held_of, feed_of}
use Rattle.frames.specs.Answers.{told_order}

-- what a call accepts: the held area, the scanner, the piece and the output
pub record Fits (a : List ℕ) (x : Scanner) (p o : List ℕ) : Type 0 where
  pub area : length a ≡ 1029
  pub count : x.count ≤ 1029
  pub held : x.count ≤ x.taken
  pub taken : x.taken ≤ 2 ^ 48
  pub mode : x.mode ≤ 1
  pub piece : length p ≤ 65536
  pub limit : x.taken + length p ≤ 2 ^ 48
  pub output : 1029 ≤ length o

-- ---- whether a call can go on

-- a held area and a scanner with which a call goes on
pub record InOrder (a : List ℕ) (x : Scanner) : Type 0 where
  pub area : length a ≡ 1029
  pub count : x.count ≤ 1029
  pub held : x.count ≤ x.taken
  pub taken : x.taken ≤ 2 ^ 48
  pub mode : x.mode ≤ 1

-- the five tests, with what follows them
abbrev tested : {A : Type 0} → (c d e f g : Bool) → Told A → Told A
tested c d e f g later = cond c size (cond d state (cond e state (cond f state (cond g state later))))

abbrev pass : Told (Unit {0})
pass = Accepted tt

none_true : (c d e f g : Bool) → pass ≡ tested c d e f g pass → (c ≡ false) × (d ≡ false) × (e ≡ false) × (f ≡ false) × (g ≡ false)
none_true true d e f g h = let z : ◌≡◌ {A = ℕ} 0 1 = cc in absurd (omega arith)
none_true false true e f g h = let z : ◌≡◌ {A = ℕ} 0 1 = cc in absurd (omega arith)
none_true false false true f g h = let z : ◌≡◌ {A = ℕ} 0 1 = cc in absurd (omega arith)
none_true false false false true g h = let z : ◌≡◌ {A = ℕ} 0 1 = cc in absurd (omega arith)
none_true false false false false true h = let z : ◌≡◌ {A = ℕ} 0 1 = cc in absurd (omega arith)
none_true false false false false false h = (refl, refl, refl, refl, refl)

-- a test that is true refuses, whatever follows the tests
first_true : {A B S : Type 0} (s : S) (later : Told B) (onward : B → Outcome A S) (n : ℕ) (cs : List ℕ) (c d e f g : Bool)
    → Refused n cs ≡ tested c d e f g pass → refusing s (tested c d e f g later) onward ≡ outcome (Refused n cs) s
first_true s later onward n cs true d e f g h = let i : n ≡ 9 = cc in let j : cs ≡ [] = cc in rw (i, j)
first_true s later onward n cs false true e f g h = let i : n ≡ 11 = cc in let j : cs ≡ [] = cc in rw (i, j)
first_true s later onward n cs false false true f g h = let i : n ≡ 11 = cc in let j : cs ≡ [] = cc in rw (i, j)
first_true s later onward n cs false false false true g h = let i : n ≡ 11 = cc in let j : cs ≡ [] = cc in rw (i, j)
first_true s later onward n cs false false false false true h = let i : n ≡ 11 = cc in let j : cs ≡ [] = cc in rw (i, j)
first_true s later onward n cs false false false false false h = let z : ◌≡◌ {A = ℕ} 0 1 = cc in absurd (omega arith)

module _ (a : List ℕ) (x : Scanner) {r : Result (Unit {0}) Refusal} (told : told_order r ≡ order_of a x) where
  pub in_order : {u : Unit {0}} → r ≡ Ok u → InOrder a x
  in_order e =
      let t = none_true (not (eqb (length a) 1029)) (ltb 1029 x.count) (ltb x.taken x.count) (ltb (2 ^ 48) x.taken) (ltb 1 x.mode) (sym (ap told_order e) ∙ told) in
      record {
        area = eqb-true (length a) 1029 (not-false (eqb (length a) 1029) t.0);
        count = ltb-false 1029 x.count t.1;
        held = ltb-false x.taken x.count t.2;
        taken = ltb-false (2 ^ 48) x.taken t.3;
        mode = ltb-false 1 x.mode t.4;
      }

  -- a refusal is that of these tests, whatever follows them
  module _ {A B S : Type 0} (s : S) (later : Told B) (onward : B → Outcome A S) where
    pub refused_first : {e : Refusal} → r ≡ Err e
        → refusing s
        (cond (not (eqb (length a) 1029)) size (cond (ltb 1029 x.count) state (cond (ltb x.taken x.count) state (cond (ltb (2 ^ 48) x.taken) state (cond (ltb 1 x.mode) state later)))))
        onward ≡ outcome (Refused (number_of e) (carried_by e)) s
    refused_first {e} g =
        first_true s later onward (number_of e) (carried_by e)
        (not (eqb (length a) 1029)) (ltb 1029 x.count) (ltb x.taken x.count) (ltb (2 ^ 48) x.taken) (ltb 1 x.mode) (sym (ap told_order g) ∙ told)

  -- and so that of the call
  pub out_of_order : {W K : Type 0} (F : Framing W K) (p o : List ℕ) {e : Refusal} → r ≡ Err e → feed_of F a x p o ≡ outcome (Refused (number_of e) (carried_by e)) (a, o)
  unfolding feed_of
  out_of_order F p o g = refused_first (a, o) _ (λ h. called (feed (decide F) h p) x a o) g

module _ {K : Type 0} (areas : List ℕ × List ℕ) (onward : List ℕ → FedOutcome K) (y : FedOutcome K) (r : FedAnswer K) (ans : y.answer ≡ Accepted r) where
  -- State, on any of its four grounds
  no_state : (c d e f : Bool) (x : Told (List ℕ)) → refusing areas (cond c state (cond d state (cond e state (cond f state x)))) onward ≡ y
      → (c ≡ false) × (d ≡ false) × (e ≡ false) × (f ≡ false) × (refusing areas x onward ≡ y)
  no_state c d e f x h =
      let s = not_refused areas onward y r ans c 11 [] (cond d state (cond e state (cond f state x))) h in
      let t = not_refused areas onward y r ans d 11 [] (cond e state (cond f state x)) s.1 in
      let u = not_refused areas onward y r ans e 11 [] (cond f state x) t.1 in
      let v = not_refused areas onward y r ans f 11 [] x u.1 in
      (s.0, t.0, u.0, v.0, v.1)

  -- Size, on either ground, and Room
  no_size : (c d e : Bool) (x : Told (List ℕ)) → refusing areas (cond c size (cond d size (cond e (room 1029) x))) onward ≡ y
      → (c ≡ false) × (d ≡ false) × (e ≡ false) × (refusing areas x onward ≡ y)
  no_size c d e x h =
      let s = not_refused areas onward y r ans c 9 [] (cond d size (cond e (room 1029) x)) h in
      let t = not_refused areas onward y r ans d 9 [] (cond e (room 1029) x) s.1 in
      let u = not_refused areas onward y r ans e 8 (1029 ∷ []) x t.1 in
      (s.0, t.0, u.0, u.1)

module _ {W K : Type 0} (F : Framing W K) (a : List ℕ) (x : Scanner) (p o : List ℕ) where
  -- ---- the cases of a call

  pub wrong_area : (length a ≡ 1029 → ⊥) → feed_of F a x p o ≡ outcome size (a, o)
  unfolding feed_of
  wrong_area h = rw (ne_eqb (length a) 1029 h)

  module _ (h : length a ≡ 1029) where
    pub wrong_count : 1029 < x.count → feed_of F a x p o ≡ outcome state (a, o)
    unfolding feed_of
    wrong_count l = rw (eq-eqb (length a) 1029 h, lt-ltb 1029 x.count l)

    module _ (c : x.count ≤ 1029) where
      pub over_taken : x.taken < x.count → feed_of F a x p o ≡ outcome state (a, o)
      unfolding feed_of
      over_taken l = rw (eq-eqb (length a) 1029 h, le-ltb 1029 x.count c, lt-ltb x.taken x.count l)

      module _ (d : x.count ≤ x.taken) where
        pub over_limit : 2 ^ 48 < x.taken → feed_of F a x p o ≡ outcome state (a, o)
        unfolding feed_of
        over_limit l = rw (eq-eqb (length a) 1029 h, le-ltb 1029 x.count c, le-ltb x.taken x.count d, lt-ltb (2 ^ 48) x.taken l)

        module _ (e : x.taken ≤ 2 ^ 48) where
          pub wrong_mode : 1 < x.mode → feed_of F a x p o ≡ outcome state (a, o)
          unfolding feed_of
          wrong_mode l =
              rw (eq-eqb (length a) 1029 h, le-ltb 1029 x.count c, le-ltb x.taken x.count d, le-ltb (2 ^ 48) x.taken e, lt-ltb 1 x.mode l)

          module _ (m : x.mode ≤ 1) where
            pub long_piece : 65536 < length p → feed_of F a x p o ≡ outcome size (a, o)
            unfolding feed_of
            long_piece l =
                rw (eq-eqb (length a) 1029 h, le-ltb 1029 x.count c, le-ltb x.taken x.count d, le-ltb (2 ^ 48) x.taken e, le-ltb 1 x.mode m, lt-ltb 65536 (length p) l)

            module _ (n : length p ≤ 65536) where
              pub past_limit : 2 ^ 48 < x.taken + length p → feed_of F a x p o ≡ outcome size (a, o)
              unfolding feed_of
              past_limit l =
                  rw (
                    eq-eqb (length a) 1029 h,
                    le-ltb 1029 x.count c,
                    le-ltb x.taken x.count d,
                    le-ltb (2 ^ 48) x.taken e,
                    le-ltb 1 x.mode m,
                    le-ltb 65536 (length p) n,
                    lt-ltb (2 ^ 48) (x.taken + length p) l,
                  )

              pub small_output : x.taken + length p ≤ 2 ^ 48 → length o < 1029 → feed_of F a x p o ≡ outcome (room 1029) (a, o)
              unfolding feed_of
              small_output k l =
                  rw (
                    eq-eqb (length a) 1029 h,
                    le-ltb 1029 x.count c,
                    le-ltb x.taken x.count d,
                    le-ltb (2 ^ 48) x.taken e,
                    le-ltb 1 x.mode m,
                    le-ltb 65536 (length p) n,
                    le-ltb (2 ^ 48) (x.taken + length p) k,
                    lt-ltb (length o) 1029 l,
                  )

  pub accepted : Fits a x p o → feed_of F a x p o ≡ called (feed (decide F) (take x.count a) p) x a o
  unfolding feed_of
  accepted f =
      rw (
        eq-eqb (length a) 1029 f.area,
        le-ltb 1029 x.count f.count,
        le-ltb x.taken x.count f.held,
        le-ltb (2 ^ 48) x.taken f.taken,
        le-ltb 1 x.mode f.mode,
        le-ltb 65536 (length p) f.piece,
        le-ltb (2 ^ 48) (x.taken + length p) f.limit,
        le-ltb (length o) 1029 f.output,
      )

  pub accepts : (r : FedAnswer K) (b q : List ℕ) → feed_of F a x p o ≡ outcome (Accepted r) (b, q)
      → Fits a x p o × (called (feed (decide F) (take x.count a) p) x a o ≡ outcome (Accepted r) (b, q))
  unfolding feed_of
  accepts r b q e =
      let onward : List ℕ → FedOutcome K = λ h. called (feed (decide F) h p) x a o in
      let y : FedOutcome K = outcome (Accepted r) (b, q) in
      let last : Told (List ℕ) = Accepted (take x.count a) in
      let sizes : Told (List ℕ) = cond (ltb 65536 (length p)) size (cond (ltb (2 ^ 48) (x.taken + length p)) size (cond (ltb (length o) 1029) (room 1029) last)) in
      let states : Told (List ℕ) = cond (ltb 1029 x.count) state (cond (ltb x.taken x.count) state (cond (ltb (2 ^ 48) x.taken) state (cond (ltb 1 x.mode) state sizes))) in
      let u = not_refused (a, o) onward y r refl (not (eqb (length a) 1029)) 9 [] states e in
      let v = no_state (a, o) onward y r refl (ltb 1029 x.count) (ltb x.taken x.count) (ltb (2 ^ 48) x.taken) (ltb 1 x.mode) sizes u.1 in
      let w = no_size (a, o) onward y r refl (ltb 65536 (length p)) (ltb (2 ^ 48) (x.taken + length p)) (ltb (length o) 1029) last v.4 in (
        record {
          area = eqb-true (length a) 1029 (not-false (eqb (length a) 1029) u.0);
          count = ltb-false 1029 x.count v.0;
          held = ltb-false x.taken x.count v.1;
          taken = ltb-false (2 ^ 48) x.taken v.2;
          mode = ltb-false 1 x.mode v.3;
          piece = ltb-false 65536 (length p) w.0;
          limit = ltb-false (2 ^ 48) (x.taken + length p) w.1;
          output = ltb-false (length o) 1029 w.2;
        },
        w.3,
      )

  -- ---- a refused call writes nothing

  called_keeps : (G : Fed W K) → Keeps (a, o) (called G x a o)
  called_keeps (fed.More t is g) = accepted_keeps (a, o) _ _
  called_keeps (fed.Frame t is k f g) = accepted_keeps (a, o) _ _

  pub feed_keeps : Keeps (a, o) (feed_of F a x p o)
  unfolding feed_of
  feed_keeps = refusing_keeps (a, o) (held_of a x p o) (λ h. called (feed (decide F) h p) x a o) (λ h. called_keeps (feed (decide F) h p))
