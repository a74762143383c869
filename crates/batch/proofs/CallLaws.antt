-- What a call refuses and accepts: an equation for each case; and that a refused call writes nothing. Assumes nothing.
use mathlib.Core.Path.{◌≡◌, refl, sym, ◌∙◌, subst}
use mathlib.Core.Bool.{Bool, true, false, cond, not}
use mathlib.Core.List.{List, [], ◌∷◌, ◌++◌}
use Prim.Native.Nat.{ℕ, zero, suc, ◌+◌, ◌-◌, ◌^◌, ◌≤◌, ◌<◌}
use native.Mathlib.Nat.{sub-zero}
use native.Mathlib.Omega.{arith}
use lib.ListN.{length, take, drop}
use lib.Dec.{ltb, eqb}
use borrow.Author.Tests.{ltb-false, eqb-true, eqb-false, not-false, lt-ltb, le-ltb, eq-eqb, ne_eqb}
use Rattle.std.specs.Prelude.{Result, Err}
use Rattle.bits.specs.Told.{Told, Accepted, Refused, size, state, room}
use Rattle.bits.specs.Refusals.{number_of, carried_by}
use Rattle.bits.specs.declared.refusal.Refusal.{Refusal}
use Rattle.bits.specs.Outcome.{Outcome, outcome, refusing}
use Rattle.bits.specs.Onto.{onto}
use Rattle.bits.proofs.OutcomeLaws.{Keeps, accepted_keeps, refusing_keeps, not_refused}
use Rattle.frames.specs.Framing.{Framing, decide}
use Rattle.frames.specs.Scan.{scan}
use Rattle.frames.specs.Rtcm.{Kind}
use Rattle.frames.specs.Call.{Scanner, held_from, onwards, order_of}
use Rattle.frames.specs.Answers.{told_order}
use Rattle.frames.proofs.CallLaws.{refused_first}
use Rattle.frames.specs.Listing.{Found, first_of}
use Rattle.batch.specs.Batch.{Areas, areas, left_of, AllAnswer, Frames, answer_of, called_all, held_in, feed_all_of}
use Rattle.batch.specs.Steps.{Lists, lists, Walks, settled}
use Rattle.frames.specs.declared.list.Listing.{Listing}

-- what a call accepts: the areas, the scanner and the piece
pub record FitsAll (a : Areas) (x : Scanner) (p : List ℕ) : Type 0 where
  pub area : length a.held ≡ 1029
  pub seam : length a.seam ≡ 2058
  pub count : x.count ≤ 1029
  pub held : x.count ≤ x.taken
  pub taken : x.taken ≤ 2 ^ 48
  pub mode : x.mode ≤ 1
  pub piece : length p ≤ 65536
  pub limit : x.taken + length p ≤ 2 ^ 48
  pub lengths : length a.lengths ≡ length a.starts
  pub kinds : length a.kinds ≡ length a.starts
  pub some : 1 ≤ length a.starts

positive : (n : ℕ) → (n ≡ 0 → ⊥) → 1 ≤ n
positive zero h = absurd (h refl)
positive (suc n) h = omega arith

either_size : {A B S : Type 0} (s : S) (onward : B → Outcome A S) (b : Bool) → outcome size s ≡ refusing s (cond b size size) onward
either_size s onward true = refl
either_size s onward false = refl

module _ {W : Type 0} (F : Framing W Kind) (a : Areas) (x : Scanner) (p : List ℕ) where
  -- ---- the cases of a call, in their order

  -- Size of the seam, whichever area is judged first
  pub wrong_seam : (length a.seam ≡ 2058 → ⊥) → outcome size a ≡ feed_all_of F a x p
  unfolding feed_all_of
  wrong_seam n = rw (ne_eqb (length a.seam) 2058 n) (either_size a _ (not (eqb (length a.held) 1029)))

  -- a held area and a scanner that are not in order
  pub out_of_order : length a.seam ≡ 2058 → {r : Result (Unit {0}) Refusal} → told_order r ≡ order_of a.held x → {e : Refusal} → r ≡ Err e
      → outcome (Refused (number_of e) (carried_by e)) a ≡ feed_all_of F a x p
  unfolding feed_all_of
  out_of_order s told {e} g = rw (eq-eqb (length a.seam) 2058 s) (sym (refused_first a.held x told a _ _ g))

  module _ (h : length a.held ≡ 1029) where
    module _ (s : length a.seam ≡ 2058) where
      -- what is left to judge
      abbrev Later : Told (List ℕ) → Type 0
      Later t = refusing a t (λ g. called_all (first_of (length a.starts) (scan (decide F) (g ++ p))) x g p a) ≡ feed_all_of F a x p

      sizes : Told (List ℕ)
      sizes =
          cond (ltb 65536 (length p)) size
          (cond (ltb (2 ^ 48) (x.taken + length p)) size
          (cond (not (eqb (length a.lengths) (length a.starts))) size
          (cond (not (eqb (length a.kinds) (length a.starts))) size
          (cond (eqb (length a.starts) 0) (room 1)
          (Accepted (take x.count a.held))))))

      later : Later (cond (ltb 1029 x.count) state (cond (ltb x.taken x.count) state (cond (ltb (2 ^ 48) x.taken) state (cond (ltb 1 x.mode) state sizes))))
      unfolding feed_all_of sizes
      later = rw (eq-eqb (length a.held) 1029 h, eq-eqb (length a.seam) 2058 s)

      module _ (c : x.count ≤ 1029) where
        module _ (d : x.count ≤ x.taken) where
          module _ (e : x.taken ≤ 2 ^ 48) where
            module _ (m : x.mode ≤ 1) where
              in_order : Later sizes
              in_order = rw (le-ltb 1029 x.count c, le-ltb x.taken x.count d, le-ltb (2 ^ 48) x.taken e, le-ltb 1 x.mode m) at later

              pub long_piece : 65536 < length p → outcome size a ≡ feed_all_of F a x p
              unfolding sizes
              long_piece l = rw (lt-ltb 65536 (length p) l) at in_order

              module _ (n : length p ≤ 65536) where
                pub past_limit : 2 ^ 48 < x.taken + length p → outcome size a ≡ feed_all_of F a x p
                unfolding sizes
                past_limit l = rw (le-ltb 65536 (length p) n, lt-ltb (2 ^ 48) (x.taken + length p) l) at in_order

                module _ (k : x.taken + length p ≤ 2 ^ 48) where
                  pub uneven_lengths : (length a.lengths ≡ length a.starts → ⊥) → outcome size a ≡ feed_all_of F a x p
                  unfolding sizes
                  uneven_lengths l = rw (le-ltb 65536 (length p) n, le-ltb (2 ^ 48) (x.taken + length p) k, ne_eqb (length a.lengths) (length a.starts) l) at in_order

                  module _ (i : length a.lengths ≡ length a.starts) where
                    pub uneven_kinds : (length a.kinds ≡ length a.starts → ⊥) → outcome size a ≡ feed_all_of F a x p
                    unfolding sizes
                    uneven_kinds l =
                        rw (
                          le-ltb 65536 (length p) n,
                          le-ltb (2 ^ 48) (x.taken + length p) k,
                          eq-eqb (length a.lengths) (length a.starts) i,
                          ne_eqb (length a.kinds) (length a.starts) l,
                        ) at in_order

                    module _ (j : length a.kinds ≡ length a.starts) where
                      pub no_place : length a.starts ≡ 0 → outcome (room 1) a ≡ feed_all_of F a x p
                      unfolding sizes
                      no_place l =
                          rw (
                            le-ltb 65536 (length p) n,
                            le-ltb (2 ^ 48) (x.taken + length p) k,
                            eq-eqb (length a.lengths) (length a.starts) i,
                            eq-eqb (length a.kinds) (length a.starts) j,
                            eq-eqb (length a.starts) 0 l,
                          ) at in_order

  abbrev accepted_as : Type 0
  accepted_as = called_all (first_of (length a.starts) (scan (decide F) (take x.count a.held ++ p))) x (take x.count a.held) p a ≡ feed_all_of F a x p

  pub accepted : FitsAll a x p → accepted_as
  unfolding sizes
  accepted f =
      rw (
        le-ltb 65536 (length p) f.piece,
        le-ltb (2 ^ 48) (x.taken + length p) f.limit,
        eq-eqb (length a.lengths) (length a.starts) f.lengths,
        eq-eqb (length a.kinds) (length a.starts) f.kinds,
        ne_eqb (length a.starts) 0 (λ e. omega (arith, f.some, e)),
      ) at (in_order f.area f.seam f.count f.held f.taken f.mode)

  -- what was accepted fits
  pub accepts : (r : AllAnswer) (b : Areas) → feed_all_of F a x p ≡ outcome (Accepted r) b → FitsAll a x p
  unfolding feed_all_of
  accepts r b e =
      let onward : List ℕ → Outcome AllAnswer Areas = λ h. called_all (first_of (length a.starts) (scan (decide F) (h ++ p))) x h p a in
      let y : Outcome AllAnswer Areas = outcome (Accepted r) b in
      let t11 : Told (List ℕ) = Accepted (take x.count a.held) in
      let t10 : Told (List ℕ) = cond (eqb (length a.starts) 0) (room 1) t11 in
      let t9 : Told (List ℕ) = cond (not (eqb (length a.kinds) (length a.starts))) size t10 in
      let t8 : Told (List ℕ) = cond (not (eqb (length a.lengths) (length a.starts))) size t9 in
      let t7 : Told (List ℕ) = cond (ltb (2 ^ 48) (x.taken + length p)) size t8 in
      let t6 : Told (List ℕ) = cond (ltb 65536 (length p)) size t7 in
      let t5 : Told (List ℕ) = cond (ltb 1 x.mode) state t6 in
      let t4 : Told (List ℕ) = cond (ltb (2 ^ 48) x.taken) state t5 in
      let t3 : Told (List ℕ) = cond (ltb x.taken x.count) state t4 in
      let t2 : Told (List ℕ) = cond (ltb 1029 x.count) state t3 in
      let t1 : Told (List ℕ) = cond (not (eqb (length a.seam) 2058)) size t2 in
      let u0 = not_refused a onward y r refl (not (eqb (length a.held) 1029)) 9 [] t1 e in
      let u1 = not_refused a onward y r refl (not (eqb (length a.seam) 2058)) 9 [] t2 u0.1 in
      let u2 = not_refused a onward y r refl (ltb 1029 x.count) 11 [] t3 u1.1 in
      let u3 = not_refused a onward y r refl (ltb x.taken x.count) 11 [] t4 u2.1 in
      let u4 = not_refused a onward y r refl (ltb (2 ^ 48) x.taken) 11 [] t5 u3.1 in
      let u5 = not_refused a onward y r refl (ltb 1 x.mode) 11 [] t6 u4.1 in
      let u6 = not_refused a onward y r refl (ltb 65536 (length p)) 9 [] t7 u5.1 in
      let u7 = not_refused a onward y r refl (ltb (2 ^ 48) (x.taken + length p)) 9 [] t8 u6.1 in
      let u8 = not_refused a onward y r refl (not (eqb (length a.lengths) (length a.starts))) 9 [] t9 u7.1 in
      let u9 = not_refused a onward y r refl (not (eqb (length a.kinds) (length a.starts))) 9 [] t10 u8.1 in
      let u10 = not_refused a onward y r refl (eqb (length a.starts) 0) 8 (1 ∷ []) t11 u9.1 in
      record {
        area = eqb-true (length a.held) 1029 (not-false (eqb (length a.held) 1029) u0.0);
        seam = eqb-true (length a.seam) 2058 (not-false (eqb (length a.seam) 2058) u1.0);
        count = ltb-false 1029 x.count u2.0;
        held = ltb-false x.taken x.count u3.0;
        taken = ltb-false (2 ^ 48) x.taken u4.0;
        mode = ltb-false 1 x.mode u5.0;
        piece = ltb-false 65536 (length p) u6.0;
        limit = ltb-false (2 ^ 48) (x.taken + length p) u7.0;
        lengths = eqb-true (length a.lengths) (length a.starts) (not-false (eqb (length a.lengths) (length a.starts)) u8.0);
        kinds = eqb-true (length a.kinds) (length a.starts) (not-false (eqb (length a.kinds) (length a.starts)) u9.0);
        some = positive (length a.starts) (eqb-false (length a.starts) 0 u10.0);
      }

  -- ---- a walk and what it leads to are the call

  module _ (w : Listing) (f : Found Kind) (h : List ℕ) (b : Lists) (v : Walks w f (length h) (length p) (lists a.seam a.starts a.lengths a.kinds) b) where
    -- the call by the numbers of a walk
    abbrev by_numbers : ℕ → ℕ → ℕ → Bool → Outcome AllAnswer (List ℕ)
    by_numbers n stop m full =
        let t = cond full (stop - length h) (length p) in
        outcome (Accepted (Frames n t (stop - m) full (held_from x) (onwards x t (length (drop stop (h ++ take t p)))))) (onto (drop stop (h ++ take t p)) a.held)

    settled_is : settled w x h p a.held ≡ outcome (Accepted (answer_of f x h p)) (onto (left_of f h p) a.held)
    settled_is = λ j. by_numbers (v.count j) (v.stop j) (v.framed j) (v.full j)

    pub walk_calls : {r : Told AllAnswer} {g : List ℕ} → outcome r g ≡ settled w x h p a.held → outcome r (areas g b.seam b.starts b.lengths b.kinds) ≡ called_all f x h p a
    walk_calls e = let u = e ∙ settled_is in λ j. outcome (u j).answer (areas (u j).areas (v.seam j) (v.starts j) (v.lengths j) (v.kinds j))

  -- the same, as the code makes them
  pub all_called : FitsAll a x p → (w : Listing) (b : Lists)
      → Walks w (first_of (length a.starts) (scan (decide F) (take (x.count - 0) a.held ++ p))) (length (take (x.count - 0) a.held)) (length p) (lists a.seam a.starts a.lengths a.kinds) b
      → {r : Told AllAnswer} {g : List ℕ} → outcome r g ≡ settled w x (take x.count a.held) p a.held
      → outcome r (areas g b.seam b.starts b.lengths b.kinds) ≡ feed_all_of F a x p
  all_called f w b v e =
      let u =
      subst (λ n. Walks w (first_of (length a.starts) (scan (decide F) (take n a.held ++ p))) (length (take n a.held)) (length p) (lists a.seam a.starts a.lengths a.kinds) b)
      (sub-zero x.count) v in
      walk_calls w (first_of (length a.starts) (scan (decide F) (take x.count a.held ++ p))) (take x.count a.held) b u e ∙ accepted f

  -- ---- a refused call writes nothing

  pub feed_all_keeps : Keeps a (feed_all_of F a x p)
  unfolding feed_all_of
  feed_all_keeps = refusing_keeps a (held_in a x p) (λ h. called_all (first_of (length a.starts) (scan (decide F) (h ++ p))) x h p a) (λ h. accepted_keeps a _ _)
