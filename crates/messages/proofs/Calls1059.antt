-- The bias block of message 1059, of the calls: what one writes another reads into lent lists, and what one reads another writes back to the same bits. Assumes nothing.
use mathlib.Core.Path.{◌≡◌, refl, ap}
use mathlib.Core.Bool.{not}
use mathlib.Core.List.{List, []}
use Prim.Native.Nat.{ℕ, ◌+◌, ◌-◌, ◌*◌, ◌≤◌}
use native.Mathlib.Omega.{arith}
use borrow.Author.Tests.{le-ltb, eq-eqb}
use lib.ListN.{length, take}
use lib.IntN.{ℤ}
use lib.Dec.{eqb, ltb}
use Rattle.bits.specs.Told.{Accepted}
use Rattle.bits.specs.Field.{Reading, reading}
use Rattle.messages.specs.Records.{Rec1059, satellite_of, signal_of1059, bias_of1059, records1059, counted}
use Rattle.messages.specs.Read1059.{read_block1059, filled1059, taken1059, read1059}
use Rattle.messages.specs.Write1059.{write1059}
use Rattle.messages.specs.Layout1059.{Sat, flat1059}
use Rattle.messages.specs.Satellites1059.{satellites1059, Regular}
use Rattle.messages.specs.InOrder.{in_order1059}
use Rattle.formats.specs.WrittenBack.{WrittenBack}
use Rattle.formats.proofs.WrittenLaws.{not_refused}
use Rattle.messages.proofs.AcceptLaws.{had_room, call_reads, first_places}
use Rattle.messages.proofs.Accepts1059.{call_accepted}
use Rattle.messages.proofs.EveryLaws.{every_weak}
use Rattle.messages.proofs.InOrderLaws.{in_order_1059, length_records}
use Rattle.messages.proofs.KeepLaws.{leaves_1059}
use Rattle.messages.proofs.Round1059.{block_again_1059, block_back_1059}

-- ---- what is written reads back

pub reads_back_1059 : (e : ℕ) (s : List ℕ) (p : ℕ) (sats gs : List ℕ) (zs : List ℤ) {q : ℕ} → (write1059 e s p sats gs zs).answer ≡ Accepted q
    → (a b : List ℕ) (c : List ℤ) → length a ≡ length b → length a ≡ length c → length sats ≤ length a
    → read1059 (write1059 e s p sats gs zs).areas p a b c ≡ filled1059 a b c (reading (in_order1059 (records1059 sats gs zs)) q)
unfolding read1059
reads_back_1059 e s p sats gs zs h a b c i j room =
    let w = call_accepted e s p sats gs zs h in
    let rs = records1059 sats gs zs in
    let n = in_order_1059 rs (every_weak (λ r k. k.low) rs w.records.clean) in
    let l = length_records sats gs zs w.signals w.biases in
    let few : length (write1059 e s p sats gs zs).areas ≤ 1023 = omega (arith, (leaves_1059 s p e sats gs zs).long, w.few) in
    let fits : length (in_order1059 rs) ≤ length a = omega (arith, n, l) in
    rw (le-ltb 1023 _ few, eq-eqb (length a) (length b) i, eq-eqb (length a) (length c) j, block_again_1059 e s p sats gs zs h, le-ltb _ _ fits)

-- ---- what is read is written back

module _ (s : List ℕ) (p : ℕ) (a b : List ℕ) (c : List ℤ) where
  was_read : {r : Reading (List Rec1059)} → taken1059 s p a b c ≡ Accepted r → read_block1059 s p ≡ Accepted r
  was_read e =
      let u = not_refused 9 [] (ltb 1023 (length s)) _ e in
      let v = not_refused 9 [] (not (eqb (length a) (length b))) _ u.1 in
      had_room (read_block1059 s p) (length a) (not_refused 9 [] (not (eqb (length a) (length c))) _ v.1).1

  pub written_back_1059 : (e : ℕ) {n q : ℕ} → (read1059 s p a b c).answer ≡ Accepted (counted n q)
      → (xs : List Sat) → satellites1059 s p ≡ Accepted (reading xs q) → Regular e xs
      → (t : List ℕ) (r : ℕ) → length t ≤ 1023 → r + (q - p) ≤ length t * 8
      → WrittenBack s p q r
      (write1059 e t r (take n (read1059 s p a b c).areas.0) (take n (read1059 s p a b c).areas.1) (take n (read1059 s p a b c).areas.2))
  unfolding read1059 read_block1059
  written_back_1059 e {n} {q} h xs by-satellite regular t r few room =
      let d = call_reads (a, b, c) (taken1059 s p a b c) (filled1059 a b c) (λ r. refl) h in
      let rs = d.records in
      let i : read_block1059 s p ≡ Accepted (reading (flat1059 xs) q) = rw by-satellite in
      let j : reading rs q ≡ reading (flat1059 xs) q = cc (was_read d.is) in
      rw (d.lists, first_places satellite_of rs a n d.count, first_places signal_of1059 rs b n d.count, first_places bias_of1059 rs c n d.count, ap (λ (x : Reading (List Rec1059)). x.value) j)
      (block_back_1059 e s p xs by-satellite regular t r few room)
