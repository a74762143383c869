-- The places at which a satellite stands: their links, how many there are, and the records at them. Assumes nothing.
use mathlib.Core.Path.{◌≡◌, refl, sym, ap, ◌∙◌}
use mathlib.Core.Bool.{Bool, true, false, cond}
use mathlib.Core.List.{List, [], ◌∷◌, ◌++◌}
use Prim.Native.Nat.{ℕ, zero, suc, ◌+◌, ◌≤◌, ◌<◌, ◌-◌}
use native.Mathlib.Decide.{ℕ_discrete}
use native.Mathlib.Omega.{arith}
use borrow.Author.Tests.{eq-eqb, ne_eqb}
use lib.Dec.{eqb}
use lib.ListN.{length, get_or, set, drop, replicate, length-drop, length-set, length-replicate, get_or-replicate, drop_of_length-le, get_or-eq_default}
use lib.Seq.{drop-cons, get_or-set_same, get_or-set_other}
use lib.IntN.{ℤ, pos}
use Rattle.bits.specs.Signed.{twos_bits}
use Rattle.bits.specs.Fields.{bits}
use Rattle.messages.specs.StepsWrite1059.{place_of, next_of, count_of, Links, Linked, bias_fields, satellite_fields}
use Rattle.messages.specs.Records.{Rec1059, rec1059, records1059}
use Rattle.messages.specs.Writer.{keep}
use Rattle.messages.specs.Layout1059.{of_satellite}
use Rattle.formats.proofs.PutLaws.{Left, left_all, left_as}
use Rattle.messages.proofs.RecordLaws.{from1059, next1059, end1059}
use Rattle.messages.proofs.Fields1059Laws.{fields_some, fields_none, biases_next, biases_none}

-- an element, by whatever default
pub get_d_any : (l : List ℕ) (i d e : ℕ) → i < length l → get_or l i d ≡ get_or l i e
get_d_any [] i d e h = absurd (omega arith)
get_d_any (x ∷ l) zero d e h = refl
get_d_any (x ∷ l) (suc i) d e h = get_d_any l i d e (omega arith)

-- ---- one place more

module _ (sats : List ℕ) (a i : ℕ) (h : i < length sats) where
  pub next_hit : get_or sats i 0 ≡ a → next_of sats a i ≡ i
  unfolding place_of
  next_hit e = rw (drop-cons sats i 0 h, eq-eqb (get_or sats i 0) a e)

  pub next_miss : (get_or sats i 0 ≡ a → ⊥) → next_of sats a i ≡ next_of sats a (suc i)
  unfolding place_of
  next_miss e = ap (place_of a i) (drop-cons sats i 0 h) ∙ ap (λ (b : Bool). cond b i (place_of a (suc i) (drop (suc i) sats))) (ne_eqb (get_or sats i 0) a e)

  count_hit : get_or sats i 0 ≡ a → count_of a (drop i sats) ≡ count_of a (drop (suc i) sats) + 1
  unfolding count_of
  count_hit e =
      ap (count_of a) (drop-cons sats i 0 h)
      ∙ ap (λ (b : Bool). cond b 1 0 + count_of a (drop (suc i) sats)) (eq-eqb (get_or sats i 0) a e)
      ∙ omega arith

  count_miss : (get_or sats i 0 ≡ a → ⊥) → count_of a (drop i sats) ≡ count_of a (drop (suc i) sats)
  unfolding count_of
  count_miss e =
      ap (count_of a) (drop-cons sats i 0 h)
      ∙ ap (λ (b : Bool). cond b 1 0 + count_of a (drop (suc i) sats)) (ne_eqb (get_or sats i 0) a e)
      ∙ omega arith

pub next_end : (sats : List ℕ) (a i : ℕ) → length sats ≤ i → next_of sats a i ≡ i
unfolding place_of
next_end sats a i h = ap (place_of a i) (drop_of_length-le sats h)

count_end : (sats : List ℕ) (a i : ℕ) → length sats ≤ i → count_of a (drop i sats) ≡ 0
unfolding count_of
count_end sats a i h = ap (count_of a) (drop_of_length-le sats h)

-- ---- bounds

place_bounds : (a i : ℕ) (bs : List ℕ) → (i ≤ place_of a i bs) × (place_of a i bs ≤ i + length bs)
unfolding place_of
place_bounds a i [] = (omega arith, omega arith)
place_bounds a i (b ∷ bs) = go (eqb b a) (place_bounds a (suc i) bs)
  where
    go : (q : Bool) → (suc i ≤ place_of a (suc i) bs) × (place_of a (suc i) bs ≤ suc i + length bs)
        → (i ≤ cond q i (place_of a (suc i) bs)) × (cond q i (place_of a (suc i) bs) ≤ i + length (b ∷ bs))
    go true h = (omega arith, omega arith)
    go false h = (omega arith, omega arith)

pub next_bounds : (sats : List ℕ) (a i : ℕ) → i ≤ length sats → (i ≤ next_of sats a i) × (next_of sats a i ≤ length sats)
next_bounds sats a i h =
    let b = place_bounds a i (drop i sats) in
    (b.0, omega (arith, b.1, length-drop i sats))

count_most : (a : ℕ) (bs : List ℕ) → count_of a bs ≤ length bs
unfolding count_of
count_most a [] = omega arith
count_most a (b ∷ bs) = go (eqb b a) (count_most a bs)
  where
    go : (q : Bool) → count_of a bs ≤ length bs → cond q 1 0 + count_of a bs ≤ length (b ∷ bs)
    go true h = omega arith
    go false h = omega arith

pub count_from : (sats : List ℕ) (a i : ℕ) → count_of a (drop i sats) ≤ length sats
count_from sats a i = omega (arith, count_most a (drop i sats), length-drop i sats)

-- the link of a place where a satellite stands
pub link_next : (sats links : List ℕ) → Links sats links 0 → (a i : ℕ) → i < length sats → get_or sats i a ≡ a → get_or links i 0 ≡ next_of sats a (suc i)
link_next sats links l a i h e = l.link i (omega arith) h ∙ ap (λ (b : ℕ). next_of sats b (suc i)) (get_d_any sats i 0 a h ∙ e)

-- ---- linking

-- where nothing is linked yet
pub linked_none : (sats : List ℕ) → Linked sats (replicate 64 (length sats)) (replicate 1953 0) (replicate 64 0) (length sats)
linked_none sats =
    record {
      all_heads = length-replicate 64 (length sats);
      all_links = length-replicate {A = ℕ} 1953 0;
      all_counts = length-replicate {A = ℕ} 64 0;
      head = λ a l. get_or-replicate 64 a (length sats) 0 l ∙ sym (next_end sats a (length sats) (omega arith));
      chain = record { link = λ j l m. absurd (omega arith) };
      count = λ a l. get_or-replicate 64 a 0 0 l ∙ sym (count_end sats a (length sats) (omega arith));
    }

-- the place i is linked before those behind it
module _ (sats heads links counts : List ℕ) (i b : ℕ) (h : i < length sats) (e : get_or sats i 0 ≡ b) (l : b < 64)
    (few : length sats ≤ 1953) (d : Linked sats heads links counts (suc i)) where
  head_more : (a : ℕ) → a < 64 → Dec (a ≡ b) → get_or (set heads b i) a 0 ≡ next_of sats a i
  head_more a k (yes q) = rw q (get_or-set_same heads b i 0 (omega (arith, d.all_heads)) ∙ sym (next_hit sats b i h e))
  head_more a k (no q) =
      get_or-set_other heads b a i 0 q ∙ d.head a k ∙ sym (next_miss sats a i h (λ r. q (sym r ∙ e)))

  link_more : (j : ℕ) → i ≤ j → j < length sats → Dec (j ≡ i) → get_or (set links i (get_or heads b 0)) j 0 ≡ next_of sats (get_or sats j 0) (suc j)
  link_more j m k (yes q) = rw (q, e) (get_or-set_same links i (get_or heads b 0) 0 (omega (arith, d.all_links)) ∙ d.head b l)
  link_more j m k (no q) = get_or-set_other links i j (get_or heads b 0) 0 q ∙ d.chain.link j (omega arith) k

  count_more : (a : ℕ) → a < 64 → Dec (a ≡ b) → get_or (set counts b (get_or counts b 0 + 1)) a 0 ≡ count_of a (drop i sats)
  count_more a k (yes q) =
      rw q (get_or-set_same counts b (get_or counts b 0 + 1) 0 (omega (arith, d.all_counts)) ∙ ap (λ (n : ℕ). n + 1) (d.count b l) ∙ sym (count_hit sats b i h e))
  count_more a k (no q) =
      get_or-set_other counts b a (get_or counts b 0 + 1) 0 q ∙ d.count a k ∙ sym (count_miss sats a i h (λ r. q (sym r ∙ e)))

  pub linked_more : Linked sats (set heads b i) (set links i (get_or heads b 0)) (set counts b (get_or counts b 0 + 1)) i
  linked_more =
      record {
        all_heads = length-set heads b i ∙ d.all_heads;
        all_links = length-set links i (get_or heads b 0) ∙ d.all_links;
        all_counts = length-set counts b (get_or counts b 0 + 1) ∙ d.all_counts;
        head = λ a k. head_more a k (ℕ_discrete a b);
        chain = record { link = λ j m k. link_more j m k (ℕ_discrete j i) };
        count = λ a k. count_more a k (ℕ_discrete a b);
      }

-- ---- the records of one satellite

-- a satellite has as many records as its number stands in the list
pub count_records : (a : ℕ) (sats gs : List ℕ) (zs : List ℤ) → length sats ≡ length gs → length sats ≡ length zs
    → length (of_satellite a (records1059 sats gs zs)) ≡ count_of a sats
unfolding records1059 of_satellite count_of
count_records a [] gs zs p q = refl
count_records a (b ∷ sats) [] zs p q = absurd (omega arith)
count_records a (b ∷ sats) (g ∷ gs) [] p q = absurd (omega arith)
count_records a (b ∷ sats) (g ∷ gs) (z ∷ zs) p q = go (eqb b a) (count_records a sats gs zs (omega arith) (omega arith))
  where
    go : (x : Bool) → length (of_satellite a (records1059 sats gs zs)) ≡ count_of a sats
        → length (keep x (rec1059 b g z) (of_satellite a (records1059 sats gs zs))) ≡ cond x 1 0 + count_of a sats
    go true e = omega arith
    go false e = omega arith

module _ (sats gs : List ℕ) (zs : List ℤ) (lg : length sats ≡ length gs) (lz : length sats ≡ length zs) (a : ℕ) where
  pub satellite_none : (n : ℕ) → n ≡ count_of a sats → n ≡ 0 → satellite_fields a (of_satellite a (records1059 sats gs zs)) ≡ []
  satellite_none n e z = fields_none a (of_satellite a (records1059 sats gs zs)) (count_records a sats gs zs lg lz ∙ sym e ∙ z)

  satellite_some : (n : ℕ) → n ≡ count_of a sats → (n ≡ 0 → ⊥)
      → satellite_fields a (of_satellite a (records1059 sats gs zs)) ≡ bits 6 a ∷ bits 5 n ∷ bias_fields (of_satellite a (records1059 sats gs zs))
  satellite_some n e z =
      let k : length (of_satellite a (records1059 sats gs zs)) ≡ n = count_records a sats gs zs lg lz ∙ sym e in
      fields_some a (of_satellite a (records1059 sats gs zs)) (λ q. z (sym k ∙ q))
      ∙ ap (λ (m : ℕ). bits 6 a ∷ bits 5 m ∷ bias_fields (of_satellite a (records1059 sats gs zs))) k

  -- what is left to put of a satellite that has records
  pub satellite_left : (n : ℕ) → n ≡ count_of a sats → (n ≡ 0 → ⊥) → (s : List ℕ) (p : ℕ)
      → Left s p (satellite_fields a (of_satellite a (records1059 sats gs zs))) s p ((bits 6 a ∷ []) ++ (bits 5 n ∷ []) ++ bias_fields (of_satellite a (records1059 sats gs zs)))
  satellite_left n e z s p = left_as (satellite_some n e z) (left_all s p (satellite_fields a (of_satellite a (records1059 sats gs zs))))

  -- ---- along the list

  kept : (i : ℕ) → i < length sats
      → of_satellite a (from1059 sats gs zs i) ≡ keep (eqb (get_or sats i 0) a) (rec1059 (get_or sats i 0) (get_or gs i 0) (get_or zs i (pos 0))) (of_satellite a (from1059 sats gs zs (suc i)))
  unfolding of_satellite
  kept i h = ap (of_satellite a) (next1059 sats gs zs lg lz i h)

  -- at the next place where the satellite stands are its next records
  record Skips (i : ℕ) : Type 0 where
    stands : get_or sats (next_of sats a i) a ≡ a
    records : of_satellite a (from1059 sats gs zs i) ≡ of_satellite a (from1059 sats gs zs (next_of sats a i))

  skips : (k i : ℕ) → i + k ≡ length sats → Skips i
  skips zero i e =
      let n : next_of sats a i ≡ i = next_end sats a i (omega arith) in
      record {
        stands = rw n (get_or-eq_default sats a (omega arith));
        records = rw n;
      }
  skips (suc k) i e = go (ℕ_discrete (get_or sats i 0) a) (skips k (suc i) (omega arith))
    where
      h : i < length sats
      h = omega arith

      go : Dec (get_or sats i 0 ≡ a) → Skips (suc i) → Skips i
      go (yes q) s =
          let n : next_of sats a i ≡ i = next_hit sats a i h q in
          record {
            stands = rw n (get_d_any sats i a 0 h ∙ q);
            records = rw n;
          }
      go (no q) s =
          let n : next_of sats a i ≡ next_of sats a (suc i) = next_miss sats a i h q in
          record {
            stands = rw n s.stands;
            records = rw n (kept i h ∙ ap (λ (b : Bool). keep b (rec1059 (get_or sats i 0) (get_or gs i 0) (get_or zs i (pos 0))) (of_satellite a (from1059 sats gs zs (suc i)))) (ne_eqb (get_or sats i 0) a q) ∙ s.records);
          }

  pub next_stands : (i : ℕ) → i ≤ length sats → get_or sats (next_of sats a i) a ≡ a
  next_stands i h = (skips (length sats - i) i (omega arith)).stands

  pub next_records : (i : ℕ) → i ≤ length sats → of_satellite a (from1059 sats gs zs i) ≡ of_satellite a (from1059 sats gs zs (next_of sats a i))
  next_records i h = (skips (length sats - i) i (omega arith)).records

  -- one bias, and those from the next place on
  pub bias_here : (i : ℕ) → i < length sats → get_or sats i a ≡ a
      → bias_fields (of_satellite a (from1059 sats gs zs i))
      ≡ bits 5 (get_or gs i 0) ∷ bits 14 (twos_bits 14 (get_or zs i (pos 0))) ∷ bias_fields (of_satellite a (from1059 sats gs zs (next_of sats a (suc i))))
  bias_here i h e =
      ap bias_fields
      (kept i h
      ∙ ap (λ (b : Bool). keep b (rec1059 (get_or sats i 0) (get_or gs i 0) (get_or zs i (pos 0))) (of_satellite a (from1059 sats gs zs (suc i)))) (eq-eqb (get_or sats i 0) a (get_d_any sats i 0 a h ∙ e))
      ∙ ap (λ (l : List Rec1059). rec1059 (get_or sats i 0) (get_or gs i 0) (get_or zs i (pos 0)) ∷ l) (next_records (suc i) h))
      ∙ biases_next (get_or sats i 0) (get_or gs i 0) (get_or zs i (pos 0)) (of_satellite a (from1059 sats gs zs (next_of sats a (suc i))))

  pub bias_none : (i : ℕ) → length sats ≤ i → bias_fields (of_satellite a (from1059 sats gs zs i)) ≡ []
  unfolding of_satellite
  bias_none i h = ap (λ (l : List Rec1059). bias_fields (of_satellite a l)) (end1059 sats gs zs i h) ∙ biases_none
