-- Message 1230, of the calls: what one writes another reads into lent lists, with its header, and what one reads another writes back to the same bits. Assumes nothing.
use mathlib.Core.Path.{◌≡◌, refl, sym, ap, ◌∙◌}
use mathlib.Core.Bool.{true, not}
use mathlib.Core.List.{List, [], map}
use mathlib.Core.Logic.{inr}
use Prim.Native.Nat.{ℕ, ◌+◌, ◌-◌, ◌*◌, ◌≤◌}
use native.Mathlib.Omega.{arith}
use borrow.Author.Tests.{not-false}
use lib.ListN.{length, take}
use lib.IntN.{ℤ}
use lib.Dec.{eqb, ltb}
use Rattle.bits.specs.Told.{Told, Accepted}
use Rattle.bits.specs.Outcome.{Outcome, outcome}
use Rattle.bits.specs.Field.{bit_at, reading}
use Rattle.bits.specs.Fields.{total, put_all, Holds, Bytes}
use Rattle.bits.specs.Onto.{onto}
use Rattle.bits.proofs.FieldsLaws.{put_all_outside}
use Rattle.messages.specs.Records.{signal_of1230, bias_of1230, records1230}
use Rattle.messages.specs.I16.{OfI16}
use Rattle.messages.specs.Read1230.{read1230}
use Rattle.messages.specs.Write1230.{write1230, fields1230 as blockFields}
use Rattle.messages.specs.InOrder.{in_order1230}
use Rattle.formats.specs.WrittenBack.{WrittenBack}
use Rattle.formats.proofs.WrittenLaws.{not_refused}
use Rattle.messages.proofs.Accepts1230 as block
use Rattle.messages.proofs.Calls1230.{reads_back_1230, ends_1230, written_back_1230}
use Rattle.messages.proofs.KeepLaws.{leaves_1230}
use Rattle.whole.specs.declared.answer.Header1230.{Header1230}
use Rattle.whole.specs.Headers.{front1230, header_fits1230, fields1230}
use Rattle.whole.specs.Whole.{whole, fronted}
use Rattle.whole.specs.Messages.{sizes1230, read_message1230, refused1230, write_message1230}
use Rattle.whole.proofs.CallLaws.{went, fronted_accepted, fronted_back}
use Rattle.whole.proofs.RoundLaws.{laid, call_reads}
use Rattle.whole.proofs.Header1230.{front_faithful, front_bits}
use Rattle.whole.proofs.Read1230Laws as reading1230
use Rattle.whole.proofs.Write1230Laws as writing1230

-- ---- what is written reads back

module _ (s : List ℕ) (h : Header1230) (gs : List ℕ) (zs : List ℤ) where
  -- an accepted call wrote the block behind bit 28, and then the front
  record Wrote (q : ℕ) : Type 0 where
    pub header : header_fits1230 h ≡ true
    pub written : (write1230 s 28 gs zs).answer ≡ Accepted q
    pub left : (write_message1230 s h gs zs).areas ≡ put_all (write1230 s 28 gs zs).areas 0 (fields1230 h)

  call_wrote : {q : ℕ} → (write_message1230 s h gs zs).answer ≡ Accepted q → Wrote q
  unfolding write_message1230 refused1230
  call_wrote a =
      let g = went s (refused1230 (length s) h gs zs) (λ u. fronted 28 (fields1230 h) (write1230 s 28 gs zs)) a in
      let x0 = not_refused 9 [] (ltb 1023 (length s)) _ g.is in
      let x1 = not_refused 9 [] (not (eqb (length gs) (length zs))) _ x0.1 in
      let x2 = not_refused 9 [] (ltb 4 (length gs)) _ x1.1 in
      let x3 = not_refused 3 _ (not (header_fits1230 h)) _ x2.1 in
      let f = fronted_accepted 28 (fields1230 h) (write1230 s 28 gs zs) g.then in
      record {
        header = not-false (header_fits1230 h) x3.0;
        written = f.0;
        left = ap (λ (o : Outcome ℕ (List ℕ)). o.areas) g.all ∙ f.1;
      }

  -- the bits behind the message stay
  pub leaves_message_1230 : {q : ℕ} → (write_message1230 s h gs zs).answer ≡ Accepted q → (k : ℕ) → q ≤ k → bit_at (write_message1230 s h gs zs).areas k ≡ bit_at s k
  leaves_message_1230 {q} accepted k past =
      let w = call_wrote accepted in
      let x = block.call_accepted s 28 gs zs w.written in
      let o = leaves_1230 s 28 gs zs in
      let end : 28 + total (blockFields (records1230 gs zs)) ≡ q = cc (w.written, ap (λ (o : Outcome ℕ (List ℕ)). o.answer) (block.call_written s 28 gs zs x)) in
      ap (λ (l : List ℕ). bit_at l k) w.left
      ∙ put_all_outside (write1230 s 28 gs zs).areas 0 (fields1230 h) k (omega (arith, front_bits h, o.long, x.within)) (inr (omega (arith, front_bits h, end, past)))
      ∙ o.outside w.written k (inr past)

  pub reads_back_message_1230 : {q : ℕ} → Bytes s → OfI16 zs → (write_message1230 s h gs zs).answer ≡ Accepted q
      → (b : List ℕ) (c : List ℤ) → length b ≡ length c → length gs ≤ length b
      → read_message1230 (write_message1230 s h gs zs).areas b c
      ≡ outcome (Accepted (whole h (length (in_order1230 (records1230 gs zs))) q))
      (onto (map signal_of1230 (in_order1230 (records1230 gs zs))) b, onto (map bias_of1230 (in_order1230 (records1230 gs zs))) c)
  reads_back_message_1230 bytes raw accepted b c i room =
      let w = call_wrote accepted in
      let x = block.call_accepted s 28 gs zs w.written in
      let d = laid front1230 front_faithful 28 front_bits (λ t. write1230 t 28 gs zs) s (blockFields (records1230 gs zs)) h (λ t l.
      block.call_written t 28 gs zs (record { few = omega (arith, l, x.few); biases = x.biases; most = x.most; clean = x.clean; single = x.single; within = omega (arith, l, x.within) }))
      bytes x.few x.within w.header in
      let behind = reads_back_1230 (put_all s 0 (fields1230 h)) 28 gs zs raw (d.answer ∙ w.written) b c i room in
      ap (λ (l : List ℕ). read_message1230 l b c) w.left
      ∙ sym (reading1230.reads _ b c d.few i (sym d.front) (sym (ap (λ (l : List ℕ). read1230 l 28 b c) d.behind ∙ behind)) refl)

-- ---- what is read is written back

-- a message whose front stands in s, and whose block is written back, is written back
message_back : (s : List ℕ) (t : List ℕ) (h : Header1230) (gs : List ℕ) (zs : List ℤ) {q : ℕ} → header_fits1230 h ≡ true
    → Holds s 0 (fields1230 h) → 28 ≤ q → WrittenBack s 28 q 28 (write1230 t 28 gs zs) → WrittenBack s 0 q 0 (write_message1230 t h gs zs)
message_back s t h gs zs {q} fits stands past back =
    let w = write1230 t 28 gs zs in
    let x = block.call_accepted t 28 gs zs back.end in
    let n = front_bits h in
    let o : outcome (Accepted (28 + (q - 28))) w.areas ≡ w = ap (λ (a : Told ℕ). outcome a w.areas) (sym back.end) in
    fronted_back s 28 q w.areas (fields1230 h) past n stands (omega (arith, (leaves_1230 t 28 gs zs).long, x.within)) back.same
    (writing1230.goes_on t h gs zs x.few x.biases x.most fits o)

module _ (s : List ℕ) (b : List ℕ) (c : List ℤ) where
  pub written_back_message_1230 : {h : Header1230} {n q : ℕ} → (read_message1230 s b c).answer ≡ Accepted (whole h n q) → (t : List ℕ) → length t ≤ 1023 → q ≤ length t * 8
      → WrittenBack s 0 q 0 (write_message1230 t h (take n (read_message1230 s b c).areas.0) (take n (read_message1230 s b c).areas.1))
  unfolding read_message1230
  written_back_message_1230 {h} {n} {q} accepted t few room =
      let d = call_reads front1230 front_faithful 28 front_bits s (λ p. read1230 s p b c) (b, c) (sizes1230 s b c) accepted in
      let r = read1230 s 28 b c in
      let x = front_faithful.there s 0 (reading h 28) d.front in
      let past : 28 ≤ q = omega (arith, ends_1230 s 28 b c d.block) in
      let back = written_back_1230 s 28 b c d.block t 28 few (omega (arith, past, room)) in
      rw d.lists (message_back s t h (take n r.areas.0) (take n r.areas.1) x.fitting x.holds past back)
