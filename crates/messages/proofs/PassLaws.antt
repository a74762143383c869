-- Laws of the two passes of a block's reader: what one step reads, and what it leaves to the rest. Assumes nothing.
use mathlib.Core.Path.{◌≡◌, refl, sym, ap, ap₂, ◌∙◌}
use mathlib.Core.List.{List, [], ◌∷◌, ◌++◌}
use Prim.Native.Nat.{ℕ, suc, ◌+◌, ◌-◌, ◌≤◌, ◌<◌}
use native.Mathlib.Nat.{add-zero, add_assoc}
use native.Mathlib.Omega.{arith}
use lib.ListN.{length, length-append}
use Rattle.bits.specs.Told.{Told, Accepted, Refused, and_then}
use Rattle.bits.specs.Field.{Reading, reading}
use Rattle.messages.specs.StepsRead.{before, many, counts, records_in, Suffices, Stored}
use Rattle.messages.specs.Records.{Counted, counted}

-- what t reads, and behind it what is read from there on
abbrev pub chain : {A : Type 0} → Told (Reading (List A)) → (ℕ → Told (Reading (List A))) → Told (Reading (List A))
chain t rest = and_then t (λ xs. before xs.value (rest xs.next))

-- ---- what is accepted was read by both

pub record Both {A : Type 0} (t : Told (Reading (List A))) (rest : ℕ → Told (Reading (List A))) (r : Reading (List A)) : Type 0 where
  pub first : Reading (List A)
  pub second : Reading (List A)
  pub first_is : t ≡ Accepted first
  pub second_is : rest first.next ≡ Accepted second
  pub value : r.value ≡ first.value ++ second.value
  pub next : r.next ≡ second.next

pub both_read : {A : Type 0} (t : Told (Reading (List A))) (rest : ℕ → Told (Reading (List A))) {r : Reading (List A)} → chain t rest ≡ Accepted r → Both t rest r
both_read {A} (Refused n carried) rest e = let z : ◌≡◌ {A = ℕ} 0 1 = cc in absurd (omega arith)
both_read {A} (Accepted x) rest {r} e = go (rest x.next) refl e
  where
    go : (u : Told (Reading (List A))) → rest x.next ≡ u → before x.value u ≡ Accepted r → Both (Accepted x) rest r
    go (Refused n carried) d e = let z : ◌≡◌ {A = ℕ} 0 1 = cc in absurd (omega arith)
    go (Accepted y) d e =
        let f : reading (x.value ++ y.value) y.next ≡ r = cc in
        record {
          first = x;
          second = y;
          first_is = refl;
          second_is = d;
          value = ap (λ (z : Reading (List A)). z.value) (sym f);
          next = ap (λ (z : Reading (List A)). z.next) (sym f);
        }

-- ---- what a count tells of the reading

-- i records and those of t are j, and t ends at bit q
pub record Step {A : Type 0} (i : ℕ) (t : Told (Reading (List A))) (j q : ℕ) : Type 0 where
  pub read : List A
  pub is : t ≡ Accepted (reading read q)
  pub count : j ≡ i + length read

module _ {A : Type 0} (i : ℕ) where
  pub counted_tells : {j q : ℕ} (t : Told (Reading (List A))) → Accepted (counted j q) ≡ counts i t → Step i t j q
  unfolding counts
  counted_tells {j} {q} (Accepted r) e =
      let d : counted j q ≡ counted (i + length r.value) r.next = cc in
      record {
        read = r.value;
        is = ap (λ (c : Counted). Accepted (reading r.value c.end)) (sym d);
        count = ap (λ (c : Counted). c.count) d;
      }
  counted_tells (Refused n carried) e = let z : ◌≡◌ {A = ℕ} 0 1 = cc in absurd (omega arith)

  pub refused_tells : {n : ℕ} {carried : List ℕ} (t : Told (Reading (List A))) → Refused n carried ≡ counts i t → t ≡ Refused n carried
  unfolding counts
  refused_tells (Accepted r) e = let z : ◌≡◌ {A = ℕ} 0 1 = cc in absurd (omega arith)
  refused_tells (Refused n carried) e = cc

  pub counts_before : (xs : List A) (t : Told (Reading (List A))) → counts i (before xs t) ≡ counts (i + length xs) t
  unfolding counts
  counts_before xs (Accepted r) =
      ap (λ (k : ℕ). Accepted (counted k r.next))
      (ap (λ (k : ℕ). i + k) (length-append xs r.value) ∙ sym (add_assoc i (length xs) (length r.value)))
  counts_before xs (Refused n carried) = refl

  pub counts_refused : {t : Told (Reading (List A))} {n : ℕ} {carried : List ℕ} → t ≡ Refused n carried → Refused n carried ≡ counts i t
  unfolding counts
  counts_refused e = sym (ap (counts i) e)

  pub counts_none : (t : Told (Reading (List A))) (p : ℕ) → t ≡ Accepted (reading [] p) → Accepted (counted i p) ≡ counts i t
  unfolding counts
  counts_none t p e = rw (e, add-zero)

  -- ---- a step, and the rest

  module _ (t : Told (Reading (List A))) (rest : ℕ → Told (Reading (List A))) where
    pub counts_on : {j q : ℕ} → Accepted (counted j q) ≡ counts i t → counts i (chain t rest) ≡ counts j (rest q)
    counts_on {j} {q} e =
        let s = counted_tells t e in
        ap (λ (u : Told (Reading (List A))). counts i (chain u rest)) s.is
        ∙ counts_before s.read (rest q)
        ∙ ap (λ (k : ℕ). counts k (rest q)) (sym s.count)

    pub counts_stop : {n : ℕ} {carried : List ℕ} → Refused n carried ≡ counts i t → counts i (chain t rest) ≡ Refused n carried
    unfolding counts
    counts_stop e = ap (λ (u : Told (Reading (List A))). counts i (chain u rest)) (refused_tells t e)

    pub suffices_first : {n : ℕ} → Suffices i (chain t rest) n → Suffices i t n
    suffices_first h =
        let b = both_read t rest h.is in
        record { all = b.first; is = b.first_is; room = omega (arith, h.room, ap length b.value ∙ length-append b.first.value b.second.value) }

    pub suffices_on : {n j q : ℕ} → Suffices i (chain t rest) n → Accepted (counted j q) ≡ counts i t → Suffices j (rest q) n
    suffices_on {n} {j} {q} h e =
        let b = both_read t rest h.is in
        let s = counted_tells t e in
        let f : b.first ≡ reading s.read q = cc in
        let v = ap (λ (r : Reading (List A)). length r.value) f in
        record {
          all = b.second;
          is = ap rest (ap (λ (r : Reading (List A)). r.next) (sym f)) ∙ b.second_is;
          room = omega (arith, h.room, s.count, v, ap length b.value ∙ length-append b.first.value b.second.value);
        }

    -- storing what both read is storing what the step reads, and then the rest
    module _ {S : Type 0} (put : ℕ → List A → S → S) (put_on : (i : ℕ) (xs ys : List A) (l : S) → put i (xs ++ ys) l ≡ put (i + length xs) ys (put i xs l)) where
      pub stored_on : {n j q : ℕ} {old new : S} → Suffices i (chain t rest) n → Stored put i t (Accepted (counted j q)) old new
          → put i (records_in (chain t rest)) old ≡ put j (records_in (rest q)) new
      unfolding records_in
      stored_on {n} {j} {q} {old} {new} h w =
          let b = both_read t rest h.is in
          let s = counted_tells t w.says in
          let f : b.first ≡ reading s.read q = cc in
          let x : records_in t ≡ s.read = ap records_in s.is in
          let y : records_in (chain t rest) ≡ s.read ++ b.second.value =
          ap records_in h.is ∙ b.value ∙ ap (λ (r : Reading (List A)). r.value ++ b.second.value) f in
          let z : records_in (rest q) ≡ b.second.value =
          ap records_in (ap rest (ap (λ (r : Reading (List A)). r.next) (sym f)) ∙ b.second_is) in
          ap (λ (l : List A). put i l old) y
          ∙ put_on i s.read b.second.value old
          ∙ ap₂ (λ (k : ℕ) (l : S). put k b.second.value l) (sym s.count) (ap (λ (l : List A). put i l old) (sym x) ∙ sym w.lists)
          ∙ ap (λ (l : List A). put j l new) (sym z)

-- ---- one record, and none

module _ {A : Type 0} {i : ℕ} {t : Told (Reading (List A))} where
  pub suffices_one : {n q : ℕ} {x : A} → Suffices i t n → t ≡ Accepted (reading (x ∷ []) q) → i < n
  suffices_one {n} {q} {x} h e =
      let d : h.all ≡ reading (x ∷ []) q = cc in
      omega (arith, h.room, ap (λ (r : Reading (List A)). length r.value) d)

  pub suffices_as : {u : Told (Reading (List A))} {n : ℕ} → t ≡ u → Suffices i t n → Suffices i u n
  suffices_as e h = rw e at h

  module _ {S : Type 0} (put : ℕ → List A → S → S) where
    pub stored_one : {q : ℕ} {x : A} {old new : S} → t ≡ Accepted (reading (x ∷ []) q) → new ≡ put i (x ∷ []) old → Stored put i t (Accepted (counted (i + 1) q)) old new
    unfolding counts records_in
    stored_one {old = old} e d = record { says = rw e; lists = d ∙ ap (λ (u : Told (Reading (List A))). put i (records_in u) old) (sym e) }

    -- a pass that is stored, said otherwise
    pub stored_as : {u : Told (Reading (List A))} {answer : Told Counted} {old new : S} → u ≡ t → Stored put i t answer old new → Stored put i u answer old new
    stored_as e w = rw e w

-- ---- n times the same: a turn at which k are done

module _ {A : Type 0} (f : ℕ → Told (Reading (List A))) (n k p : ℕ) where
  pub many_left : k < n → many f (n - k) p ≡ chain (f p) (many f (n - (k + 1)))
  unfolding many
  many_left h = let d : n - k ≡ suc (n - (k + 1)) = omega arith in ap (λ (m : ℕ). many f m p) d

  pub many_none : n ≤ k → many f (n - k) p ≡ Accepted (reading [] p)
  unfolding many
  many_none h = let d : n - k ≡ 0 = omega arith in ap (λ (m : ℕ). many f m p) d

  module _ (h : k < n) (i : ℕ) where
    pub many_counts_on : {j q : ℕ} → Accepted (counted j q) ≡ counts i (f p) → counts i (many f (n - k) p) ≡ counts j (many f (n - (k + 1)) q)
    many_counts_on e = ap (counts i) (many_left h) ∙ counts_on i (f p) (many f (n - (k + 1))) e

    pub many_counts_stop : {m : ℕ} {carried : List ℕ} → Refused m carried ≡ counts i (f p) → counts i (many f (n - k) p) ≡ Refused m carried
    many_counts_stop e = ap (counts i) (many_left h) ∙ counts_stop i (f p) (many f (n - (k + 1))) e

pub many_all : {A : Type 0} (f : ℕ → Told (Reading (List A))) (n p : ℕ) → many f n p ≡ many f (n - 0) p
many_all f n p = let d : n ≡ n - 0 = omega arith in ap (λ (m : ℕ). many f m p) d
