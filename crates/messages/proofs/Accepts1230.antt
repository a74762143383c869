-- When the bias block of message 1230 is written: the conditions of an accepted call, in both directions. Assumes nothing.
use mathlib.Core.Path.{◌≡◌}
use mathlib.Core.Bool.{not}
use mathlib.Core.List.{List, []}
use Prim.Native.Nat.{ℕ, ◌+◌, ◌*◌, ◌≤◌}
use borrow.Author.Tests.{ltb-false, le-ltb, eqb-true, eq-eqb, not-false}
use lib.ListN.{length}
use lib.IntN.{ℤ}
use lib.Dec.{eqb, ltb}
use Rattle.bits.specs.Told.{Accepted}
use Rattle.bits.specs.Outcome.{outcome}
use Rattle.bits.specs.Fields.{total, put_all}
use Rattle.formats.specs.Written.{fine, first_fault}
use Rattle.formats.proofs.NextLaws.{then_accepted}
use Rattle.formats.proofs.WrittenLaws.{not_refused}
use Rattle.messages.specs.Records.{records1230}
use Rattle.messages.specs.Writer.{first_repeat}
use Rattle.messages.specs.Write1230.{fault1230, fields1230, refused1230, write1230}
use Rattle.messages.proofs.WriterLaws.{run_put, run_accepted}

module _ (s : List ℕ) (p : ℕ) (gs : List ℕ) (zs : List ℤ) where
  pub record Writes : Type 0 where
    pub few : length s ≤ 1023
    pub biases : length gs ≡ length zs
    pub most : length gs ≤ 4
    pub clean : first_fault fault1230 0 gs ≡ fine
    pub single : first_repeat eqb 0 [] gs ≡ fine
    pub within : p + total (fields1230 (records1230 gs zs)) ≤ length s * 8

  nothing_refused : Writes → refused1230 (length s) gs zs ≡ fine
  unfolding refused1230
  nothing_refused w =
      rw (le-ltb 1023 (length s) w.few, eq-eqb (length gs) (length zs) w.biases, le-ltb 4 (length gs) w.most, w.clean) w.single

  pub call_written : Writes → write1230 s p gs zs ≡ outcome (Accepted (p + total (fields1230 (records1230 gs zs)))) (put_all s p (fields1230 (records1230 gs zs)))
  unfolding write1230
  call_written w = run_put (refused1230 (length s) gs zs) s p (fields1230 (records1230 gs zs)) (nothing_refused w) w.within

  pub call_accepted : {q : ℕ} → (write1230 s p gs zs).answer ≡ Accepted q → Writes
  unfolding write1230 refused1230
  call_accepted h =
      let r = run_accepted (refused1230 (length s) gs zs) s p (fields1230 (records1230 gs zs)) h in
      let a = not_refused 9 [] (ltb 1023 (length s)) _ r.0 in
      let b = not_refused 9 [] (not (eqb (length gs) (length zs))) _ a.1 in
      let c = not_refused 9 [] (ltb 4 (length gs)) _ b.1 in
      let d = then_accepted (first_fault fault1230 0 gs) _ c.1 in
      record {
        few = ltb-false 1023 (length s) a.0;
        biases = eqb-true (length gs) (length zs) (not-false (eqb (length gs) (length zs)) b.0);
        most = ltb-false 4 (length gs) c.0;
        clean = d.1;
        single = d.2;
        within = r.1;
      }
