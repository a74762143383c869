-- How far a block that was read extends, and how many records it can have. Assumes nothing.
use mathlib.Core.Path.{◌≡◌, sym, ap, ◌∙◌}
use mathlib.Core.Bool.{true}
use mathlib.Core.List.{List}
use Prim.Native.Nat.{ℕ, ◌+◌, ◌*◌, ◌^◌, ◌≤◌, ◌<◌}
use native.Mathlib.Omega.{arith}
use borrow.Author.Tests.{ltb-true, eqb-true}
use lib.ListN.{length, length-map}
use lib.IntN.{ℤ}
use lib.Dec.{eqb}
use Rattle.bits.specs.Told.{Accepted}
use Rattle.bits.specs.Field.{Reading, reading, field}
use Rattle.bits.specs.Fields.{total}
use Rattle.bits.specs.Signed.{fits_unsigned}
use Rattle.bits.proofs.FieldsLaws.{total_next, holds_first}
use Rattle.formats.specs.Format.{twos, fields_each}
use Rattle.formats.proofs.ShapedLaws.{fits_counted}
use Rattle.formats.proofs.NextLaws.{both_true, then_accepted}
use Rattle.messages.specs.Records.{Rec1059, Rec1230, bias_of1230}
use Rattle.messages.specs.Layout1059.{satellite1059, block1059, flat1059}
use Rattle.messages.specs.Layout1230.{block1230, mask_signals, masked, flat1230}
use Rattle.messages.specs.Read1059.{read_block1059}
use Rattle.messages.specs.Read1230.{read_block1230}
use Rattle.messages.proofs.AcceptLaws.{read_as, field_accepted}
use Rattle.messages.proofs.RecordLaws.{parts1230}
use Rattle.messages.proofs.Layout1059Laws.{block_good as good1059}
use Rattle.messages.proofs.Layout1230Laws.{block_good as good1230}
use Rattle.messages.proofs.Fits1059Laws.{most, block_bits}
use Rattle.messages.proofs.Read1230Laws.{masked_length}
use Rattle.messages.proofs.Fields1230Laws.{total_16}

-- ---- message 1059: 6 bits, 11 a satellite and 19 a record

-- n satellites from bit p on, with a count of records and an end
pub record Extent1059 (s : List ℕ) (p n : ℕ) (r : Reading (List Rec1059)) : Type 0 where
  pub end : r.next ≡ p + n * 11 + length r.value * 19
  pub few : length r.value ≤ n * 31
  pub within : r.next ≤ length s * 8
  pub limit : length s ≤ 1023

pub block1059_extends : (s : List ℕ) (p : ℕ) {r : Reading (List Rec1059)} → read_block1059 s p ≡ Accepted r → Extent1059 s (p + 6) (field s p 6) r
unfolding read_block1059
block1059_extends s p {r} e =
    let a = read_as flat1059 (block1059.reads s p) e in
    let xs = a.0 in
    let x = good1059.faithful.there s p (reading xs r.next) a.1 in
    let m : length (flat1059 xs) ≡ length r.value = ap length a.2 in
    let k : field s p 6 ≡ length xs = holds_first s p 6 (length xs) (fields_each satellite1059 xs) x.holds in
    record {
      end = omega (arith, block_bits xs, x.ends, m, k);
      few = omega (arith, most xs (fits_counted 6 satellite1059 xs x.fitting).1, m, k);
      within = x.within (omega (arith, block_bits xs));
      limit = (field_accepted (λ v. v) s p 6 _ (then_accepted _ _ a.1).1).few;
    }

-- 31 records a satellite at most, in 1,023 bytes at most
pub suffices_1059 : (s : List ℕ) (p : ℕ) {r : Reading (List Rec1059)} → read_block1059 s p ≡ Accepted r → length r.value ≤ 422
suffices_1059 s p e =
    let t = block1059_extends s p e in
    omega (arith, t.end, t.few, t.within, t.limit)

-- ---- message 1230: 4 bits and 16 a record

-- a block that fits: its mask, and how many biases it has
pub fits_1230 : (m : ℕ) (zs : List ℤ) → block1230.fits (m, zs) ≡ true → (m < 16) × (length zs ≡ length (masked mask_signals m))
fits_1230 m zs f =
    let u = both_true (fits_unsigned 4 m) _ f in
    (ltb-true m (2 ^ 4) u.0, eqb-true (length zs) (length (masked mask_signals m)) (both_true (eqb (length zs) (length (masked mask_signals m))) _ u.1).0)

pub record Extent1230 (s : List ℕ) (p : ℕ) (r : Reading (List Rec1230)) : Type 0 where
  pub end : r.next ≡ p + 4 + length r.value * 16
  pub few : length r.value ≤ 4
  pub within : r.next ≤ length s * 8

pub block1230_extends : (s : List ℕ) (p : ℕ) {r : Reading (List Rec1230)} → read_block1230 s p ≡ Accepted r → Extent1230 s p r
unfolding read_block1230
block1230_extends s p {r} e =
    let a = read_as flat1230 (block1230.reads s p) e in
    let x = good1230.faithful.there s p (reading a.0 r.next) a.1 in
    let m = a.0.0 in
    let zs = a.0.1 in
    let b = fits_1230 m zs x.fitting in
    let k : total (block1230.fields (m, zs)) ≡ 4 + length zs * 16 = omega (arith, total_next 4 m (fields_each (twos 16) zs), total_16 zs) in
    let n : length r.value ≡ length zs = ap length (sym a.2) ∙ sym (length-map (flat1230 a.0) bias_of1230) ∙ ap length (parts1230 _ _ (sym b.1)).1 in
    record { end = omega (arith, x.ends, k, n); few = omega (arith, n, b.1, masked_length m); within = x.within (omega (arith, k)) }
