-- What the reading of a block refuses: of data within their limit nothing but Short, and of lists that always suffice nothing by Room. Assumes nothing.
use mathlib.Core.Path.{◌≡◌, refl, sym, ◌∙◌}
use mathlib.Core.Bool.{Bool, true, false, cond, not}
use mathlib.Core.List.{List}
use Prim.Native.Nat.{ℕ, ◌≤◌}
use native.Mathlib.Omega.{arith}
use borrow.Author.Tests.{ltb-false, le-ltb}
use lib.Dec.{eqb, ltb}
use lib.IntN.{ℤ}
use lib.ListN.{length}
use Rattle.bits.specs.Told.{Told, Accepted, Refused, size, room, and_then}
use Rattle.bits.specs.Outcome.{refusing}
use Rattle.bits.specs.Field.{Reading}
use Rattle.formats.specs.Faithful.{Cut}
use Rattle.messages.specs.Reader.{room_for}
use Rattle.messages.specs.Records.{Rec1059}
use Rattle.messages.specs.Layout1059.{block1059}
use Rattle.messages.specs.Layout1230.{block1230}
use Rattle.messages.specs.Read1059.{read_block1059, filled1059, read1059}
use Rattle.messages.specs.Read1230.{read_block1230}
use Rattle.messages.proofs.Layout1059Laws.{block_good as good1059}
use Rattle.messages.proofs.Layout1230Laws.{block_good as good1230}
use Rattle.messages.proofs.ExtentLaws.{suffices_1059}

-- ---- Short alone

-- t refuses nothing but Short
pub record ShortAlone {A : Type 0} (t : Told A) : Type 0 where
  pub number : {n : ℕ} {carried : List ℕ} → t ≡ Refused n carried → n ≡ 1

accepts : {A : Type 0} (a : A) → ShortAlone (Accepted a)
accepts a = record { number = λ {n} {carried} e. let z : ◌≡◌ {A = ℕ} 0 1 = cc in absurd (omega arith) }

both : {A B : Type 0} (t : Told A) (f : A → Told B) → ShortAlone t → ((a : A) → ShortAlone (f a)) → ShortAlone (and_then t f)
both (Accepted a) f o h = h a
both (Refused n carried) f o h = record { number = λ {n = m} {carried = c} e. let d : n ≡ m = cc in sym d ∙ o.number refl }

cut : {A : Type 0} (t : Told A) → Cut t → ShortAlone t
cut (Accepted a) c = accepts a
cut (Refused n carried) c = record { number = λ {n = m} {carried = d} e. let i : n ≡ m = cc in sym i ∙ c }

module _ (s : List ℕ) (few : length s ≤ 1023) (p : ℕ) where
  pub short1059 : ShortAlone (read_block1059 s p)
  unfolding read_block1059
  short1059 = both (block1059.reads s p) _ (cut _ (good1059.short.cut s p few)) (λ r. accepts _)

  pub short1230 : ShortAlone (read_block1230 s p)
  unfolding read_block1230
  short1230 = both (block1230.reads s p) _ (cut _ (good1230.short.cut s p few)) (λ r. accepts _)

-- ---- never Room

-- a reading of at most k records does not lack room in lists of k
roomy : {A : Type 0} (t : Told (Reading (List A))) (k n : ℕ) → ShortAlone t → ((r : Reading (List A)) → t ≡ Accepted r → length r.value ≤ k) → k ≤ n
    → {m : ℕ} → and_then t (room_for n) ≡ room m → ⊥
roomy (Accepted r) k n o h l {m} e =
    let d : length r.value ≤ n = omega (arith, h r refl) in
    let f = rw (le-ltb _ _ d) at e in
    let z : ◌≡◌ {A = ℕ} 0 1 = cc in
    omega arith
roomy (Refused x carried) k n o h l {m} e = let d : x ≡ 8 = cc in omega (arith, o.number refl)

-- the sizes do not answer Room
not_size : {A : Type 0} (b : Bool) (t : Told A) {m : ℕ} → cond b size t ≡ room m → (b ≡ false) × (t ≡ room m)
not_size true t e = let z : ◌≡◌ {A = ℕ} 9 8 = cc in absurd (omega arith)
not_size false t e = (refl, e)

module _ (s : List ℕ) (p : ℕ) where
  pub never_room1059 : (sats gs : List ℕ) (zs : List ℤ) → 422 ≤ length sats → {m : ℕ} → (read1059 s p sats gs zs).answer ≡ room m → ⊥
  unfolding read1059
  never_room1059 sats gs zs h {m} e =
      let a = not_size (ltb 1023 (length s)) _ (told _ e) in
      let b = not_size (not (eqb (length sats) (length gs))) _ a.1 in
      let c = not_size (not (eqb (length sats) (length zs))) _ b.1 in
      roomy (read_block1059 s p) 422 (length sats) (short1059 s (ltb-false 1023 (length s) a.0) p) (λ r f. suffices_1059 s p f) h c.1
    where
      told : (t : Told (Reading (List Rec1059))) → (refusing (sats, gs, zs) t (filled1059 sats gs zs)).answer ≡ room m → t ≡ room m
      told (Accepted r) e = let z : ◌≡◌ {A = ℕ} 0 1 = cc in absurd (omega arith)
      told (Refused n carried) e = cc
