-- Message 1059, of the calls: what one writes another reads into lent lists, with its header, and what one reads another writes back to the same bits. Assumes nothing.
use mathlib.Core.Path.{◌≡◌, refl, sym, ap, ◌∙◌}
use mathlib.Core.Bool.{true, not}
use mathlib.Core.List.{List, [], map}
use mathlib.Core.Logic.{inr}
use Prim.Native.Nat.{ℕ, ◌+◌, ◌-◌, ◌*◌, ◌≤◌}
use native.Mathlib.Omega.{arith}
use borrow.Author.Tests.{not-false}
use lib.ListN.{length, take}
use lib.IntN.{ℤ}
use lib.Dec.{eqb, ltb}
use Rattle.bits.specs.Told.{Told, Accepted}
use Rattle.bits.specs.Outcome.{Outcome, outcome}
use Rattle.bits.specs.Field.{bit_at, reading}
use Rattle.bits.specs.Fields.{total, put_all, Holds, Bytes}
use Rattle.bits.specs.Onto.{onto}
use Rattle.bits.proofs.FieldsLaws.{put_all_outside}
use Rattle.messages.specs.Records.{satellite_of, signal_of1059, bias_of1059, records1059}
use Rattle.messages.specs.Read1059.{read1059}
use Rattle.messages.specs.Layout1059.{Sat}
use Rattle.messages.specs.Satellites1059.{satellites1059, Regular}
use Rattle.messages.specs.Signals1059.{is_edition}
use Rattle.messages.specs.Write1059.{write1059, fields1059 as blockFields}
use Rattle.messages.specs.InOrder.{in_order1059}
use Rattle.formats.specs.WrittenBack.{WrittenBack}
use Rattle.formats.proofs.WrittenLaws.{not_refused}
use Rattle.messages.proofs.Accepts1059 as block
use Rattle.messages.proofs.Calls1059.{reads_back_1059, written_back_1059}
use Rattle.messages.proofs.KeepLaws.{leaves_1059}
use Rattle.messages.proofs.Layout1059Laws.{block_good}
use Rattle.whole.specs.declared.answer.Header1059.{Header1059}
use Rattle.whole.specs.Headers.{front1059, header_fits1059, fields1059}
use Rattle.whole.specs.Whole.{whole, fronted}
use Rattle.whole.specs.Messages.{sizes1059, read_message1059, refused1059, write_message1059}
use Rattle.whole.proofs.CallLaws.{went, fronted_accepted, fronted_back}
use Rattle.whole.proofs.RoundLaws.{laid, call_reads}
use Rattle.whole.proofs.Header1059.{front_faithful, front_bits}
use Rattle.whole.proofs.Read1059Laws as reading1059
use Rattle.whole.proofs.Write1059Laws as writing1059

-- ---- what is written reads back

module _ (e : ℕ) (s : List ℕ) (h : Header1059) (sats gs : List ℕ) (zs : List ℤ) where
  -- an accepted call wrote the block behind bit 61, and then the front
  record Wrote (q : ℕ) : Type 0 where
    pub header : header_fits1059 h ≡ true
    pub written : (write1059 e s 61 sats gs zs).answer ≡ Accepted q
    pub left : (write_message1059 e s h sats gs zs).areas ≡ put_all (write1059 e s 61 sats gs zs).areas 0 (fields1059 h)

  call_wrote : {q : ℕ} → (write_message1059 e s h sats gs zs).answer ≡ Accepted q → Wrote q
  unfolding write_message1059 refused1059
  call_wrote a =
      let g = went s (refused1059 e (length s) h sats gs zs) (λ u. fronted 61 (fields1059 h) (write1059 e s 61 sats gs zs)) a in
      let x0 = not_refused 13 [] (not (is_edition e)) _ g.is in
      let x1 = not_refused 9 [] (ltb 1023 (length s)) _ x0.1 in
      let x2 = not_refused 9 [] (not (eqb (length sats) (length gs))) _ x1.1 in
      let x3 = not_refused 9 [] (not (eqb (length sats) (length zs))) _ x2.1 in
      let x4 = not_refused 9 [] (ltb 1953 (length sats)) _ x3.1 in
      let x5 = not_refused 3 _ (not (header_fits1059 h)) _ x4.1 in
      let f = fronted_accepted 61 (fields1059 h) (write1059 e s 61 sats gs zs) g.then in
      record {
        header = not-false (header_fits1059 h) x5.0;
        written = f.0;
        left = ap (λ (o : Outcome ℕ (List ℕ)). o.areas) g.all ∙ f.1;
      }

  -- the bits behind the message stay
  pub leaves_message_1059 : {q : ℕ} → (write_message1059 e s h sats gs zs).answer ≡ Accepted q → (k : ℕ) → q ≤ k → bit_at (write_message1059 e s h sats gs zs).areas k ≡ bit_at s k
  leaves_message_1059 {q} accepted k past =
      let w = call_wrote accepted in
      let x = block.call_accepted e s 61 sats gs zs w.written in
      let o = leaves_1059 s 61 e sats gs zs in
      let end : 61 + total (blockFields (records1059 sats gs zs)) ≡ q = cc (w.written, ap (λ (o : Outcome ℕ (List ℕ)). o.answer) (block.call_written e s 61 sats gs zs x)) in
      ap (λ (l : List ℕ). bit_at l k) w.left
      ∙ put_all_outside (write1059 e s 61 sats gs zs).areas 0 (fields1059 h) k (omega (arith, front_bits h, o.long, x.within)) (inr (omega (arith, front_bits h, end, past)))
      ∙ o.outside w.written k (inr past)

  pub reads_back_message_1059 : {q : ℕ} → Bytes s → (write_message1059 e s h sats gs zs).answer ≡ Accepted q
      → (a b : List ℕ) (c : List ℤ) → length a ≡ length b → length a ≡ length c → length sats ≤ length a
      → read_message1059 (write_message1059 e s h sats gs zs).areas a b c
      ≡ outcome (Accepted (whole h (length (in_order1059 (records1059 sats gs zs))) q))
      (onto (map satellite_of (in_order1059 (records1059 sats gs zs))) a, onto (map signal_of1059 (in_order1059 (records1059 sats gs zs))) b, onto (map bias_of1059 (in_order1059 (records1059 sats gs zs))) c)
  reads_back_message_1059 bytes accepted a b c i j room =
      let w = call_wrote accepted in
      let x = block.call_accepted e s 61 sats gs zs w.written in
      let d = laid front1059 front_faithful 61 front_bits (λ t. write1059 e t 61 sats gs zs) s (blockFields (records1059 sats gs zs)) h (λ t l.
      block.call_written e t 61 sats gs zs
      (record { edition = x.edition; few = omega (arith, l, x.few); signals = x.signals; biases = x.biases; most = x.most; records = x.records; within = omega (arith, l, x.within) }))
      bytes x.few x.within w.header in
      let behind = reads_back_1059 e (put_all s 0 (fields1059 h)) 61 sats gs zs (d.answer ∙ w.written) a b c i j room in
      ap (λ (l : List ℕ). read_message1059 l a b c) w.left
      ∙ sym (reading1059.reads _ a b c d.few i j (sym d.front) (sym (ap (λ (l : List ℕ). read1059 l 61 a b c) d.behind ∙ behind)) refl)

-- ---- what is read is written back

-- a message whose front stands in s, and whose block is written back, is written back
message_back : (s : List ℕ) (e : ℕ) (t : List ℕ) (h : Header1059) (sats gs : List ℕ) (zs : List ℤ) {q : ℕ} → is_edition e ≡ true → header_fits1059 h ≡ true
    → Holds s 0 (fields1059 h) → 61 ≤ q → WrittenBack s 61 q 61 (write1059 e t 61 sats gs zs) → WrittenBack s 0 q 0 (write_message1059 e t h sats gs zs)
message_back s e t h sats gs zs {q} known fits stands past back =
    let w = write1059 e t 61 sats gs zs in
    let x = block.call_accepted e t 61 sats gs zs back.end in
    let n = front_bits h in
    let o : outcome (Accepted (61 + (q - 61))) w.areas ≡ w = ap (λ (a : Told ℕ). outcome a w.areas) (sym back.end) in
    fronted_back s 61 q w.areas (fields1059 h) past n stands (omega (arith, (leaves_1059 t 61 e sats gs zs).long, x.within)) back.same
    (writing1059.goes_on e t h sats gs zs known x.few x.signals x.biases x.most fits o)

module _ (s : List ℕ) (a b : List ℕ) (c : List ℤ) where
  pub written_back_message_1059 : (e : ℕ) {h : Header1059} {n q : ℕ} → (read_message1059 s a b c).answer ≡ Accepted (whole h n q)
      → (xs : List Sat) → satellites1059 s 61 ≡ Accepted (reading xs q) → Regular e xs
      → (t : List ℕ) → length t ≤ 1023 → q ≤ length t * 8
      → WrittenBack s 0 q 0
      (write_message1059 e t h (take n (read_message1059 s a b c).areas.0) (take n (read_message1059 s a b c).areas.1) (take n (read_message1059 s a b c).areas.2))
  unfolding read_message1059
  written_back_message_1059 e {h} {n} {q} accepted xs by-satellite regular t few room =
      let d = call_reads front1059 front_faithful 61 front_bits s (λ p. read1059 s p a b c) (a, b, c) (sizes1059 s a b c) accepted in
      let r = read1059 s 61 a b c in
      let x = front_faithful.there s 0 (reading h 61) d.front in
      let past : 61 ≤ q = omega (arith, (block_good.faithful.there s 61 (reading xs q) by-satellite).ends) in
      let back = written_back_1059 s 61 a b c e d.block xs by-satellite regular t 61 few (omega (arith, past, room)) in
      rw d.lists (message_back s e t h (take n r.areas.0) (take n r.areas.1) (take n r.areas.2) regular.known x.fitting x.holds past back)
