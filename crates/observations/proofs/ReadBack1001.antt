-- What a call writes reads back, by a call into lists that have room for it. Assumes nothing.
use mathlib.Core.Path.{◌≡◌, refl, sym, ap, ap₂, subst, ◌∙◌}
use mathlib.Core.Bool.{Bool, true, false, cond, not}
use mathlib.Core.List.{List, [], ◌∷◌, map}
use Prim.Native.Nat.{ℕ, suc, ◌+◌, ◌≤◌}
use native.Mathlib.Nat.{add-zero}
use native.Mathlib.Omega.{arith}
use borrow.Author.Tests.{ltb-false}
use lib.Dec.{ltb}
use lib.IntN.{pos}
use lib.ListN.{length, get_or}
use Rattle.bits.specs.Told.{Accepted, range, too_many}
use Rattle.bits.specs.Outcome.{outcome}
use Rattle.bits.specs.Fields.{total}
use Rattle.bits.specs.Field.{reading}
use Rattle.bits.specs.Onto.{onto}
use Rattle.bits.proofs.FieldsLaws.{length_put_all}
use Rattle.formats.specs.Written.{fine, first_fault, put_run}
use Rattle.formats.proofs.UseLaws.{written_reads}
use Rattle.formats.proofs.WrittenLaws.{onward_accepted, not_refused, run_accepted}
use Rattle.observations.specs.declared.answer.Header.{Header}
use Rattle.observations.specs.declared.answer.Observation.{Observation}
use Rattle.observations.specs.Message1001.{message, message1001, header_fits}
use Rattle.observations.specs.Lists.{Lists, lists, places, even, row_at, rows_from, rows, filled}
use Rattle.observations.specs.Read1001.{seen, sizes, read1001}
use Rattle.observations.specs.Write1001.{fault1001, write1001}
use Rattle.observations.specs.Steps.{Alike}
use Rattle.observations.proofs.MessageLaws.{message_faithful, message_fits}
use Rattle.observations.proofs.ListLaws.{alike, length_rows}
use Rattle.observations.proofs.ReadLaws.{reads}
use Rattle.observations.proofs.WriteLaws.{all_fit}

-- ---- the rows of lists, taken apart again

module _ {A : Type 0} (l : Lists) (part : Observation → A) (none : A) where
  column : (xs : List A) (i : ℕ) → ((j : ℕ) → part (row_at l (i + j)) ≡ get_or xs j none) → map part (rows_from l i (length xs)) ≡ xs
  unfolding rows_from
  column [] i e = refl
  column (x ∷ xs) i e =
      ap₂ (λ (y : A) (ys : List A). y ∷ ys) (ap (λ (j : ℕ). part (row_at l j)) (sym (add-zero i)) ∙ e 0)
      (column xs (suc i) (λ j. let d : suc i + j ≡ i + suc j = omega arith in ap (λ (k : ℕ). part (row_at l k)) d ∙ e (suc j)))

  pub column_is : (xs : List A) → ((j : ℕ) → part (row_at l j) ≡ get_or xs j none) → length xs ≡ places l → map part (rows l) ≡ xs
  column_is xs e n =
      ap (λ (k : ℕ). map part (rows_from l 0 k)) (sym n)
      ∙ column xs 0 (λ j. let d : 0 + j ≡ j = omega arith in ap (λ (k : ℕ). part (row_at l k)) d ∙ e j)

-- the lists m with the lists l over their front
abbrev pub fronts : Lists → Lists → Lists
fronts l m =
    lists (onto l.satellites m.satellites) (onto l.codes m.codes) (onto l.pseudoranges m.pseudoranges) (onto l.phases m.phases) (onto l.locks m.locks)

filled_fronts : (l m : Lists) → Alike l (places l) → filled (rows l) m ≡ fronts l m
filled_fronts l m a =
    rw (
      column_is l (λ o. o.satellite) 0 l.satellites (λ j. refl) a.satellites,
      column_is l (λ o. o.code) 0 l.codes (λ j. refl) a.codes,
      column_is l (λ o. o.pseudorange) 0 l.pseudoranges (λ j. refl) a.pseudoranges,
      column_is l (λ o. o.phase) (pos 0) l.phases (λ j. refl) a.phases,
      column_is l (λ o. o.lock) 0 l.locks (λ j. refl) a.locks,
    )

-- ---- what an accepted call has written

module _ (s : List ℕ) (h : Header) (l : Lists) where
  pub record Wrote (q : ℕ) (t : List ℕ) : Type 0 where
    pub few : length s ≤ 1023
    pub same : even l ≡ true
    pub header : header_fits h ≡ true
    pub faultless : first_fault fault1001 0 (rows l) ≡ fine
    pub number : places l ≤ 31
    pub run : put_run s 0 (message1001.fields (message h (rows l))) ≡ outcome (Accepted q) t

  is_true : (b : Bool) → not b ≡ false → b ≡ true
  is_true true e = refl
  is_true false e = sym e

  pub wrote : {q : ℕ} {t : List ℕ} → write1001 s h l ≡ outcome (Accepted q) t → Wrote q t
  unfolding write1001 sizes
  wrote e =
      let a = onward_accepted s (sizes s l) _ e in
      let z = not_refused 9 [] (ltb 1023 (length s)) _ a.1 in
      let y = not_refused 9 [] (not (even l)) _ z.1 in
      let b = onward_accepted s (cond (not (header_fits h)) (range 0) fine) _ a.2 in
      let x = not_refused 3 (0 ∷ []) (not (header_fits h)) _ b.1 in
      let c = onward_accepted s (first_fault fault1001 0 (rows l)) _ b.2 in
      let d = onward_accepted s (cond (ltb 31 (places l)) (too_many 32) fine) _ c.2 in
      let w = not_refused 6 (32 ∷ []) (ltb 31 (places l)) _ d.1 in
      record {
        few = ltb-false 1023 (length s) z.0;
        same = is_true (even l) y.0;
        header = is_true (header_fits h) x.0;
        faultless = c.1;
        number = ltb-false 31 (places l) w.0;
        run = d.2;
      }

  -- what is written reads back: the header, the observations over the front of any lists that have room for them, and the end bit
  pub written_reads_back : {q : ℕ} {t : List ℕ} → write1001 s h l ≡ outcome (Accepted q) t → (m : Lists) → even m ≡ true → places l ≤ places m
      → read1001 t m ≡ outcome (Accepted (seen h (places l) q)) (fronts l m)
  written_reads_back {q} {t} e m v room =
      let w = wrote e in
      let fs = message1001.fields (message h (rows l)) in
      let r = run_accepted s 0 fs w.run in
      let n = length_rows l 0 (places l) in
      let f = message_fits h (rows l) w.header (omega (arith, n, w.number)) (all_fit 0 (rows l) w.faultless) in
      let b = written_reads message1001 message_faithful s 0 (message h (rows l)) w.few f r.within in
      let g = subst (λ (x : List ℕ). message1001.reads x 0 ≡ Accepted (reading (message h (rows l)) (0 + total fs))) (sym r.left) b in
      let k : length t ≤ 1023 = omega (arith, ap length r.left, length_put_all s 0 fs, w.few) in
      sym (reads t m k v g (omega (arith, n, room)))
      ∙ ap₂ (λ (i : ℕ) (p : ℕ). outcome (Accepted (seen h i p)) (filled (rows l) m)) n (sym r.end)
      ∙ ap (λ (x : Lists). outcome (Accepted (seen h (places l) q)) x) (filled_fronts l m (alike l w.same))
