-- The bias block of message 1230, of the calls: what one writes another reads into lent lists, and what one reads another writes back to the same bits. Assumes nothing.
use mathlib.Core.Path.{◌≡◌, refl}
use mathlib.Core.Bool.{not}
use mathlib.Core.List.{List, []}
use Prim.Native.Nat.{ℕ, ◌+◌, ◌-◌, ◌*◌, ◌≤◌}
use native.Mathlib.Omega.{arith}
use borrow.Author.Tests.{le-ltb, eq-eqb}
use lib.ListN.{length, take}
use lib.IntN.{ℤ}
use lib.Dec.{eqb, ltb}
use Rattle.bits.specs.Told.{Accepted}
use Rattle.bits.specs.Field.{Reading, reading}
use Rattle.bits.specs.Fields.{total}
use Rattle.messages.specs.Records.{Rec1230, signal_of1230, bias_of1230, records1230, counted}
use Rattle.messages.specs.I16.{OfI16}
use Rattle.messages.specs.Read1230.{read_block1230, filled1230, taken1230, read1230}
use Rattle.messages.specs.Write1230.{fields1230, write1230}
use Rattle.messages.specs.InOrder.{in_order1230}
use Rattle.formats.specs.WrittenBack.{WrittenBack}
use Rattle.formats.proofs.WrittenLaws.{not_refused}
use Rattle.messages.proofs.AcceptLaws.{had_room, call_reads, first_places}
use Rattle.messages.proofs.Accepts1230.{call_accepted, call_written}
use Rattle.messages.proofs.ExtentLaws.{block1230_extends}
use Rattle.messages.proofs.Fields1230Laws.{bits_is}
use Rattle.messages.proofs.KeepLaws.{leaves_1230}
use Rattle.messages.proofs.Round1230.{block_again_1230, block_back_1230}

-- ---- what is written reads back

pub reads_back_1230 : (s : List ℕ) (p : ℕ) (gs : List ℕ) (zs : List ℤ) {q : ℕ} → OfI16 zs → (write1230 s p gs zs).answer ≡ Accepted q
    → (b : List ℕ) (c : List ℤ) → length b ≡ length c → length gs ≤ length b
    → read1230 (write1230 s p gs zs).areas p b c ≡ filled1230 b c (reading (in_order1230 (records1230 gs zs)) q)
unfolding read1230
reads_back_1230 s p gs zs {q} raw h b c i room =
    let w = call_accepted s p gs zs h in
    let rs = records1230 gs zs in
    let again = block_again_1230 s p gs zs raw h in
    let end : p + total (fields1230 rs) ≡ q = cc (h, call_written s p gs zs w) in
    let n = bits_is gs zs w.biases w.clean in
    let few : length (write1230 s p gs zs).areas ≤ 1023 = omega (arith, (leaves_1230 s p gs zs).long, w.few) in
    let fits : length (in_order1230 rs) ≤ length b = omega (arith, (block1230_extends _ p again).end, end, n) in
    rw (le-ltb 1023 _ few, eq-eqb (length b) (length c) i, again, le-ltb _ _ fits)

-- ---- what is read is written back

module _ (s : List ℕ) (p : ℕ) (b : List ℕ) (c : List ℤ) where
  was_read : {r : Reading (List Rec1230)} → taken1230 s p b c ≡ Accepted r → read_block1230 s p ≡ Accepted r
  was_read e =
      let u = not_refused 9 [] (ltb 1023 (length s)) _ e in
      had_room (read_block1230 s p) (length b) (not_refused 9 [] (not (eqb (length b) (length c))) _ u.1).1

  -- a block that a call read has at least its mask
  pub ends_1230 : {n q : ℕ} → (read1230 s p b c).answer ≡ Accepted (counted n q) → p + 4 ≤ q
  unfolding read1230
  ends_1230 h = omega (arith, (block1230_extends s p (was_read (call_reads (b, c) (taken1230 s p b c) (filled1230 b c) (λ r. refl) h).is)).end)

  pub written_back_1230 : {n q : ℕ} → (read1230 s p b c).answer ≡ Accepted (counted n q) → (t : List ℕ) (r : ℕ) → length t ≤ 1023 → r + (q - p) ≤ length t * 8
      → WrittenBack s p q r (write1230 t r (take n (read1230 s p b c).areas.0) (take n (read1230 s p b c).areas.1))
  unfolding read1230
  written_back_1230 {n} {q} h t r few room =
      let d = call_reads (b, c) (taken1230 s p b c) (filled1230 b c) (λ r. refl) h in
      let rs = d.records in
      rw (d.lists, first_places signal_of1230 rs b n d.count, first_places bias_of1230 rs c n d.count) (block_back_1230 s p rs (was_read d.is) t r few room)
