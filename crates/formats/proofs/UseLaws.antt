-- What a faithful format is used for: what is written reads back, and what was read is written back to the same bits. Assumes nothing.
use mathlib.Core.Path.{◌≡◌, sym, ap, ap₂, subst, ◌∙◌}
use mathlib.Core.Bool.{true}
use mathlib.Core.List.{List}
use Prim.Native.Nat.{ℕ, ◌+◌, ◌-◌, ◌*◌, ◌≤◌}
use native.Mathlib.Omega.{arith}
use lib.ListN.{length}
use Rattle.bits.specs.Told.{Told, Accepted, and_then}
use Rattle.bits.specs.Outcome.{Outcome, outcome}
use Rattle.bits.specs.Field.{Reading, reading}
use Rattle.bits.specs.Fields.{total, put_all, Holds}
use Rattle.bits.proofs.FieldsLaws.{length_put_all, put_all_holds}
use Rattle.formats.specs.Format.{Format}
use Rattle.formats.specs.Faithful.{Faithful}
use Rattle.formats.specs.WrittenBack.{WrittenBack}
use Rattle.formats.proofs.StandLaws.{put_back}

module _ {A : Type 0} (F : Format A) (f : Faithful F) (s : List ℕ) (p : ℕ) where
  pub written_reads : (a : A) → length s ≤ 1023 → F.fits a ≡ true → p + total (F.fields a) ≤ length s * 8
      → F.reads (put_all s p (F.fields a)) p ≡ Accepted (reading a (p + total (F.fields a)))
  written_reads a few g l =
      let fs = F.fields a in
      let n = length_put_all s p fs in
      f.back (put_all s p fs) p a (omega (arith, n, few)) g (put_all_holds s p fs l (f.fit a g)) (omega (arith, n, l))

  -- what a call put reads back, `seen` in whatever way
  pub call_reads_back : {B : Type 0} (seen : A → B) {a : A} {b : B} {q : ℕ} {call : Outcome ℕ (List ℕ)} → length s ≤ 1023 → F.fits a ≡ true → p + total (F.fields a) ≤ length s * 8
      → call ≡ outcome (Accepted (p + total (F.fields a))) (put_all s p (F.fields a)) → call.answer ≡ Accepted q → seen a ≡ b
      → and_then (F.reads call.areas p) (λ r. Accepted (reading (seen r.value) r.next)) ≡ Accepted (reading b q)
  call_reads_back {B} seen {a} {b} {q} {call} few g l put answer same =
      let end : p + total (F.fields a) ≡ q = cc (answer, ap (λ (o : Outcome ℕ (List ℕ)). o.answer) put) in
      ap (λ (o : Outcome ℕ (List ℕ)). and_then (F.reads o.areas p) (λ r. Accepted (reading (seen r.value) r.next))) put
      ∙ ap (λ (t : Told (Reading A)). and_then t (λ r. Accepted (reading (seen r.value) r.next))) (written_reads a few g l)
      ∙ ap₂ (λ (x : B) (k : ℕ). Accepted (reading x k)) same end

  -- what was read, and is put into t from bit r on by a call, is written back
  pub call_writes_back : {a b : A} {q : ℕ} → F.reads s p ≡ Accepted (reading a q) → b ≡ a → (t : List ℕ) (r : ℕ) {call : Outcome ℕ (List ℕ)} → r + (q - p) ≤ length t * 8
      → (r + total (F.fields b) ≤ length t * 8 → call ≡ outcome (Accepted (r + total (F.fields b))) (put_all t r (F.fields b))) → WrittenBack s p q r call
  call_writes_back {a} {b} {q} e same t r room put =
      let x = f.there s p (reading a q) e in
      let fs = F.fields b in
      let long : total fs ≡ q - p = ap (λ (y : A). total (F.fields y)) same ∙ omega (arith, x.ends) in
      put_back s p q t r fs (subst (λ (y : A). Holds s p (F.fields y)) (sym same) x.holds) long (omega (arith, long, room)) (put (omega (arith, long, room)))
