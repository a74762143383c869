-- The bias block of message 1059, from its format: what a call wrote is read, satellites ascending and those of one in list order; and what stands in the data is written to the same bits, into any data from any bit on. Assumes nothing.
use mathlib.Core.Path.{◌≡◌, sym, ap, ◌∙◌}
use mathlib.Core.List.{List, map}
use Prim.Native.Nat.{ℕ, ◌+◌, ◌-◌, ◌*◌, ◌≤◌}
use native.Mathlib.Omega.{arith}
use lib.ListN.{length, length-map}
use lib.IntN.{ℤ}
use Rattle.bits.specs.Told.{Accepted}
use Rattle.bits.specs.Outcome.{outcome}
use Rattle.bits.specs.Field.{reading}
use Rattle.bits.specs.Fields.{total, put_all}
use Rattle.formats.specs.WrittenBack.{WrittenBack}
use Rattle.formats.proofs.ShapedLaws.{fits_counted}
use Rattle.formats.proofs.UseLaws.{call_reads_back, call_writes_back}
use Rattle.messages.specs.Records.{Rec1059, satellite_of, signal_of1059, bias_of1059, records1059}
use Rattle.messages.specs.Layout1059.{satellite1059, block1059, Sat, flat1059, grouped1059}
use Rattle.messages.specs.Read1059.{read_block1059}
use Rattle.messages.specs.Write1059.{fields1059, write1059}
use Rattle.messages.specs.Satellites1059.{satellites1059, Regular}
use Rattle.messages.specs.InOrder.{in_order1059}
use Rattle.messages.proofs.Accepts1059.{Fine, edition_known, call_written, call_accepted}
use Rattle.messages.proofs.RecordLaws.{columns1059}
use Rattle.messages.proofs.Layout1059Laws.{block_good, same_count}
use Rattle.messages.proofs.Grouped1059Laws.{grouped_again, flat_grouped}
use Rattle.messages.proofs.Fits1059Laws.{most, grouped_fits, all_writable, thin_of}

-- a block that was written is there
pub block_again_1059 : (e : ℕ) (s : List ℕ) (p : ℕ) (sats gs : List ℕ) (zs : List ℤ) {q : ℕ} → (write1059 e s p sats gs zs).answer ≡ Accepted q
    → read_block1059 (write1059 e s p sats gs zs).areas p ≡ Accepted (reading (in_order1059 (records1059 sats gs zs)) q)
unfolding read_block1059 fields1059
block_again_1059 e s p sats gs zs h =
    let w = call_accepted e s p sats gs zs h in
    let rs = records1059 sats gs zs in
    call_reads_back block1059 block_good.faithful s p flat1059 w.few (grouped_fits e rs w.records) w.within (call_written e s p sats gs zs w) h (flat_grouped rs)

-- a block that stands in s is written into any data that has room for it
pub block_back_1059 : (e : ℕ) (s : List ℕ) (p : ℕ) {q : ℕ} (xs : List Sat) → satellites1059 s p ≡ Accepted (reading xs q) → Regular e xs
    → (t : List ℕ) (r : ℕ) → length t ≤ 1023 → r + (q - p) ≤ length t * 8
    → WrittenBack s p q r (write1059 e t r (map satellite_of (flat1059 xs)) (map signal_of1059 (flat1059 xs)) (map bias_of1059 (flat1059 xs)))
unfolding fields1059
block_back_1059 e s p {q} xs h regular t r few room =
    let rs = flat1059 xs in
    let b = fits_counted 6 satellite1059 xs (block_good.faithful.there s p (reading xs q) h).fitting in
    let same : grouped1059 rs ≡ xs = grouped_again xs regular.ascending b.1 regular.biased in
    let fine : Fine e rs =
    record {
      clean = all_writable e xs b.1 regular.assigned;
      thin = thin_of rs 64 0 (rw same b.1);
      fewer = λ z. omega (arith, z, same_count rs 64 0, ap length same, b.0);
      single = regular.single;
    } in
    call_writes_back block1059 block_good.faithful s p h same t r room (λ within.
    call_written e t r (map satellite_of rs) (map signal_of1059 rs) (map bias_of1059 rs)
    (record {
      edition = edition_known e regular.known;
      few = few;
      signals = length-map rs satellite_of ∙ sym (length-map rs signal_of1059);
      biases = length-map rs satellite_of ∙ sym (length-map rs bias_of1059);
      most = omega (arith, length-map rs satellite_of, most xs b.1, b.0);
      records = rw (columns1059 rs) fine;
      within = rw (columns1059 rs) within;
    })
    ∙ ap (λ (x : List Rec1059). outcome (Accepted (r + total (fields1059 x))) (put_all t r (fields1059 x))) (columns1059 rs))
