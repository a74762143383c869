-- A call of the C surface that returns another number than 0 leaves every lent area but the extra one as it came. Assumes nothing.
use mathlib.Core.Path.{◌≡◌, refl, ap, ◌∙◌}
use mathlib.Core.Bool.{Bool, true, false}
use mathlib.Core.List.{List}
use Prim.Native.Nat.{ℕ}
use lib.IntN.{ℤ}
use lib.ListN.{length}
use lib.Dec.{eqb}
use Rattle.bits.specs.Told.{Told, Accepted, Refused}
use Rattle.bits.specs.Outcome.{Outcome}
use Rattle.bits.specs.Field.{write_unsigned, write_twos, write_signmag}
use Rattle.bits.specs.Signed.{fits_unsigned, fits_twos, fits_signmag, twos_bits, signmag_bits}
use Rattle.bits.proofs.OutcomeLaws.{Keeps}
use Rattle.bits.proofs.WriteLaws as fields
use Rattle.frames.specs.Frame.{write_frame}
use Rattle.frames.specs.Modes.{framing_of}
use Rattle.frames.specs.Call.{feed_of}
use Rattle.frames.proofs.WriteLaws as frame
use Rattle.frames.proofs.CallLaws.{feed_keeps}
use Rattle.messages.specs.Read1059.{read1059}
use Rattle.messages.specs.Read1230.{read1230}
use Rattle.messages.specs.Write1059.{write1059}
use Rattle.messages.specs.Write1230.{write1230}
use Rattle.messages.proofs.KeepLaws.{refused_read_1059, refused_read_1230, refused_write_1059, refused_write_1230}
use Rattle.settings.specs.Read.{read_settings}
use Rattle.settings.specs.Write.{write_settings}
use Rattle.settings.proofs.KeepLaws as settings
use Rattle.cache.specs.Cache.{Call, step}
use Rattle.cache.proofs.KeepLaws.{step_keeps}
use Rattle.observations.specs.declared.answer.Header.{Header}
use Rattle.observations.specs.Lists.{Lists}
use Rattle.observations.specs.Read1001.{read1001}
use Rattle.observations.specs.Write1001.{write1001}
use Rattle.observations.proofs.ToldLaws as m1001
use Rattle.whole.specs.declared.answer.Header1059.{Header1059}
use Rattle.whole.specs.declared.answer.Header1230.{Header1230}
use Rattle.whole.specs.Messages.{read_message1059, write_message1059, read_message1230, write_message1230}
use Rattle.whole.proofs.KeepLaws.{refused_read_message_1059, refused_read_message_1230, refused_write_message_1059, refused_write_message_1230}
use Rattle.peerivolt.specs.Extra.{in_numbers, Returned, returned, if_sized, answered}
use Rattle.peerivolt.specs.Fields.{end_values}
use Rattle.peerivolt.specs.Messages.{message1059_values, message1230_values}
use Rattle.peerivolt.specs.Scanner.{scanner_of, fed_values, feeds}
use Rattle.peerivolt.specs.Biases.{counted_values}
use Rattle.peerivolt.specs.Settings.{found_values, reads_settings}
use Rattle.peerivolt.specs.Cache.{value_values}
use Rattle.peerivolt.specs.Message1001.{seen_values}

-- where d returns another number than 0, the areas are as they were before
pub record RefusedKeeps {Areas : Type 0} (before : Areas) (d : Returned Areas) : Type 0 where
  pub kept : {r : ℕ} {e : List ℕ} {after : Areas} → returned r e after ≡ d → (r ≡ 0 → ⊥) → after ≡ before

module _ {Areas : Type 0} (before : Areas) where
  -- an area of another size than it must have
  pub sized_keeps : (sized : Bool) (e : List ℕ) (d : Returned Areas) → RefusedKeeps before d → RefusedKeeps before (if_sized sized e before d)
  sized_keeps true e d k = k
  sized_keeps false e d k = record { kept = λ q n. ap (λ (x : Returned Areas). x.areas) q }

  -- an outcome that is told in C
  pub answered_keeps : {A : Type 0} (values : A → List ℕ) (e : List ℕ) (w : Outcome A Areas) → Keeps before w → RefusedKeeps before (answered values e before w)
  unfolding answered
  answered_keeps {A} values e w k = sized_keeps (eqb (length e) 8) e _ (record { kept = λ q n. ap (λ (x : Returned Areas). x.areas) q ∙ go w.answer refl (ap (λ (x : Returned Areas). x.answer.number) q) n })
    where
      go : (t : Told A) → w.answer ≡ t → {r : ℕ} → r ≡ (in_numbers values t).number → (r ≡ 0 → ⊥) → w.areas ≡ before
      go (Accepted a) i q n = absurd (n q)
      go (Refused m carried) i q n = k.kept i

-- ---- each export that is lent more than the extra area: s the bytes, p the start, w the width, e the extra area

pub keeps_pv_field_write_unsigned : (s : List ℕ) (p w v : ℕ) (e : List ℕ) → RefusedKeeps s (answered end_values e s (write_unsigned s p w v))
keeps_pv_field_write_unsigned s p w v e = answered_keeps s end_values e (write_unsigned s p w v) (fields.write_keeps (fits_unsigned w v) v s p w)

pub keeps_pv_field_write_twos : (s : List ℕ) (p w : ℕ) (z : ℤ) (e : List ℕ) → RefusedKeeps s (answered end_values e s (write_twos s p w z))
keeps_pv_field_write_twos s p w z e = answered_keeps s end_values e (write_twos s p w z) (fields.write_keeps (fits_twos w z) (twos_bits w z) s p w)

pub keeps_pv_field_write_signmag : (s : List ℕ) (p w : ℕ) (z : ℤ) (e : List ℕ) → RefusedKeeps s (answered end_values e s (write_signmag s p w z))
keeps_pv_field_write_signmag s p w z e = answered_keeps s end_values e (write_signmag s p w z) (fields.write_keeps (fits_signmag w z) (signmag_bits w z) s p w)

pub keeps_pv_frame_write : (d out e : List ℕ) → RefusedKeeps out (answered end_values e out (write_frame d out))
keeps_pv_frame_write d out e = answered_keeps out end_values e (write_frame d out) (frame.write_keeps d out)

pub keeps_pv_feed : (held : List ℕ) (count taken mode : ℕ) (piece out e : List ℕ)
    → RefusedKeeps (held, out) (feeds held out (feed_of (framing_of mode) held (scanner_of count taken mode) piece out) e)
unfolding feeds
keeps_pv_feed held count taken mode piece out e =
    let x = scanner_of count taken mode in
    sized_keeps (held, out) (eqb (length held) 1029) e _ (answered_keeps (held, out) fed_values e (feed_of (framing_of mode) held x piece out) (feed_keeps (framing_of mode) held x piece out))

pub keeps_pv_settings_read : (s : List ℕ) (reader index : ℕ) (ns ps e : List ℕ) → RefusedKeeps (ns, ps) (reads_settings ns ps (read_settings s reader index ns ps) e)
unfolding reads_settings
keeps_pv_settings_read s reader index ns ps e =
    sized_keeps (ns, ps) (eqb (length ns) 64) e _ (sized_keeps (ns, ps) (eqb (length ps) 64) e _
    (answered_keeps (ns, ps) found_values e (read_settings s reader index ns ps) (settings.read_keeps s reader index ns ps)))

pub keeps_pv_settings_write : (edition index : ℕ) (ns ps out e : List ℕ) → RefusedKeeps out (answered end_values e out (write_settings edition index ns ps out))
keeps_pv_settings_write edition index ns ps out e = answered_keeps out end_values e (write_settings edition index ns ps out) (settings.write_keeps edition index ns ps out)

-- a store and a removal
pub keeps_pv_cache : (c : Call) (l : List (List ℕ)) (e : List ℕ) → RefusedKeeps l (answered value_values e l (step c l))
keeps_pv_cache c l e = answered_keeps l value_values e (step c l) (step_keeps c l)

pub keeps_pv_1001_read : (s : List ℕ) (l : Lists) (e : List ℕ) → RefusedKeeps l (answered seen_values e l (read1001 s l))
keeps_pv_1001_read s l e = answered_keeps l seen_values e (read1001 s l) (m1001.read_keeps s l)

pub keeps_pv_1001_write : (s : List ℕ) (h : Header) (l : Lists) (e : List ℕ) → RefusedKeeps s (answered end_values e s (write1001 s h l))
keeps_pv_1001_write s h l e = answered_keeps s end_values e (write1001 s h l) (m1001.write_keeps s h l)

pub keeps_pv_1059_read : (s : List ℕ) (p : ℕ) (sats gs : List ℕ) (zs : List ℤ) (e : List ℕ) → RefusedKeeps (sats, gs, zs) (answered counted_values e (sats, gs, zs) (read1059 s p sats gs zs))
keeps_pv_1059_read s p sats gs zs e = answered_keeps (sats, gs, zs) counted_values e (read1059 s p sats gs zs) (refused_read_1059 s p sats gs zs)

pub keeps_pv_1230_read : (s : List ℕ) (p : ℕ) (gs : List ℕ) (zs : List ℤ) (e : List ℕ) → RefusedKeeps (gs, zs) (answered counted_values e (gs, zs) (read1230 s p gs zs))
keeps_pv_1230_read s p gs zs e = answered_keeps (gs, zs) counted_values e (read1230 s p gs zs) (refused_read_1230 s p gs zs)

pub keeps_pv_1059_write : (edition : ℕ) (s : List ℕ) (p : ℕ) (sats gs : List ℕ) (zs : List ℤ) (e : List ℕ) → RefusedKeeps s (answered end_values e s (write1059 edition s p sats gs zs))
keeps_pv_1059_write edition s p sats gs zs e = answered_keeps s end_values e (write1059 edition s p sats gs zs) (refused_write_1059 s p edition sats gs zs)

pub keeps_pv_1230_write : (s : List ℕ) (p : ℕ) (gs : List ℕ) (zs : List ℤ) (e : List ℕ) → RefusedKeeps s (answered end_values e s (write1230 s p gs zs))
keeps_pv_1230_write s p gs zs e = answered_keeps s end_values e (write1230 s p gs zs) (refused_write_1230 s p gs zs)

-- ---- whole messages

pub keeps_pv_1059_message_read : (s sats gs : List ℕ) (zs : List ℤ) (e : List ℕ)
    → RefusedKeeps (sats, gs, zs) (answered message1059_values e (sats, gs, zs) (read_message1059 s sats gs zs))
keeps_pv_1059_message_read s sats gs zs e =
    answered_keeps (sats, gs, zs) message1059_values e (read_message1059 s sats gs zs) (refused_read_message_1059 s sats gs zs)

pub keeps_pv_1230_message_read : (s gs : List ℕ) (zs : List ℤ) (e : List ℕ) → RefusedKeeps (gs, zs) (answered message1230_values e (gs, zs) (read_message1230 s gs zs))
keeps_pv_1230_message_read s gs zs e = answered_keeps (gs, zs) message1230_values e (read_message1230 s gs zs) (refused_read_message_1230 s gs zs)

pub keeps_pv_1059_message_write : (edition : ℕ) (s : List ℕ) (h : Header1059) (sats gs : List ℕ) (zs : List ℤ) (e : List ℕ)
    → RefusedKeeps s (answered end_values e s (write_message1059 edition s h sats gs zs))
keeps_pv_1059_message_write edition s h sats gs zs e =
    answered_keeps s end_values e (write_message1059 edition s h sats gs zs) (refused_write_message_1059 edition s h sats gs zs)

pub keeps_pv_1230_message_write : (s : List ℕ) (h : Header1230) (gs : List ℕ) (zs : List ℤ) (e : List ℕ) → RefusedKeeps s (answered end_values e s (write_message1230 s h gs zs))
keeps_pv_1230_message_write s h gs zs e = answered_keeps s end_values e (write_message1230 s h gs zs) (refused_write_message_1230 s h gs zs)
