-- The statement of each export allows one answer: the returned number, the extra area and the other lent areas. Assumes nothing.
use mathlib.Core.Path.{◌≡◌, sym, ap, ◌∙◌}
use mathlib.Core.List.{List}
use Prim.Native.Nat.{ℕ}
use lib.IntN.{ℤ}
use Rattle.bits.specs.Told.{Accepted}
use Rattle.bits.specs.Crc.{crc}
use Rattle.bits.specs.Field.{read_unsigned, read_twos, read_signmag, write_unsigned, write_twos, write_signmag}
use Rattle.frames.specs.Frame.{check, write_frame}
use Rattle.frames.specs.Modes.{framing_of}
use Rattle.frames.specs.Call.{feed_of}
use Rattle.messages.specs.Read1059.{read1059}
use Rattle.messages.specs.Read1230.{read1230}
use Rattle.messages.specs.Write1059.{write1059}
use Rattle.messages.specs.Write1230.{write1230}
use Rattle.messages.specs.Metres.{metres1059, metres1230}
use Rattle.messages.specs.Signals.{sig, table_of, signal_of, number_of}
use Rattle.messages.specs.Signals1059.{named_signal1059, named_number1059}
use Rattle.messages.specs.SignalOrder.{order}
use Rattle.damage.specs.Compare.{compare}
use Rattle.settings.specs.Read.{read_settings}
use Rattle.settings.specs.Write.{write_settings}
use Rattle.frames.specs.Fate.{fate_of}
use Rattle.peerivolt.specs.Why.{fate_values}
use Rattle.cache.specs.Cache.{Call, step}
use Rattle.peerivolt.specs.Cache.{value_values}
use Rattle.peerivolt.specs.Damage.{run_values}
use Rattle.peerivolt.specs.Settings.{reads_settings}
use Rattle.observations.specs.declared.answer.Header.{Header}
use Rattle.observations.specs.Lists.{Lists}
use Rattle.observations.specs.Read1001.{read1001}
use Rattle.observations.specs.Write1001.{write1001}
use Rattle.observations.specs.Measured.{pseudorange_of, phase_of, lock_of}
use Rattle.peerivolt.specs.Message1001.{seen_values, measured_values}
use Rattle.whole.specs.declared.answer.Header1059.{Header1059}
use Rattle.whole.specs.declared.answer.Header1230.{Header1230}
use Rattle.whole.specs.Messages.{read_message1059, write_message1059, read_message1230, write_message1230}
use Rattle.peerivolt.specs.Messages.{message1059_values, message1230_values}
use Rattle.peerivolt.specs.Extra.{Returned, returned, answered, reads}
use Rattle.peerivolt.specs.Fields.{reading_values, signed_values, end_values}
use Rattle.peerivolt.specs.Frames.{whole_values}
use Rattle.peerivolt.specs.Scanner.{scanner_of, feeds}
use Rattle.peerivolt.specs.Biases.{counted_values}
use Rattle.peerivolt.specs.Signals.{signal_values, number_values, order_values}

-- two answers that are both d are equal, number, extra area and lent areas
pub record OneAnswer {Areas : Type 0} (d : Returned Areas) : Type 0 where
  pub same : {r r' : ℕ} {e e' : List ℕ} {a a' : Areas} → returned r e a ≡ d → returned r' e' a' ≡ d → (r ≡ r') × (e ≡ e') × (a ≡ a')

-- the same of a call that returns a value and is lent nothing to write
pub record OneValue {A : Type 0} (d : A) : Type 0 where
  pub same : {x y : A} → x ≡ d → y ≡ d → x ≡ y

pub only_returned : {Areas : Type 0} (d : Returned Areas) → OneAnswer d
only_returned {Areas} d =
    record { same = λ p q. let i = p ∙ sym q in (ap (λ (x : Returned Areas). x.answer.number) i, ap (λ (x : Returned Areas). x.answer.extra) i, ap (λ (x : Returned Areas). x.areas) i) }

pub only_value : {A : Type 0} (d : A) → OneValue d
only_value d = record { same = λ p q. p ∙ sym q }

-- ---- each export: s the bytes, p the start, w the width, e the extra area

pub only_pv_crc24q : (s : List ℕ) → OneValue (crc s)
only_pv_crc24q s = only_value (crc s)

pub only_pv_field_read_unsigned : (s : List ℕ) (p w : ℕ) (e : List ℕ) → OneAnswer (reads reading_values (read_unsigned s p w) e)
only_pv_field_read_unsigned s p w e = only_returned (reads reading_values (read_unsigned s p w) e)

pub only_pv_field_read_twos : (s : List ℕ) (p w : ℕ) (e : List ℕ) → OneAnswer (reads signed_values (read_twos s p w) e)
only_pv_field_read_twos s p w e = only_returned (reads signed_values (read_twos s p w) e)

pub only_pv_field_read_signmag : (s : List ℕ) (p w : ℕ) (e : List ℕ) → OneAnswer (reads signed_values (read_signmag s p w) e)
only_pv_field_read_signmag s p w e = only_returned (reads signed_values (read_signmag s p w) e)

pub only_pv_field_write_unsigned : (s : List ℕ) (p w v : ℕ) (e : List ℕ) → OneAnswer (answered end_values e s (write_unsigned s p w v))
only_pv_field_write_unsigned s p w v e = only_returned (answered end_values e s (write_unsigned s p w v))

pub only_pv_field_write_twos : (s : List ℕ) (p w : ℕ) (z : ℤ) (e : List ℕ) → OneAnswer (answered end_values e s (write_twos s p w z))
only_pv_field_write_twos s p w z e = only_returned (answered end_values e s (write_twos s p w z))

pub only_pv_field_write_signmag : (s : List ℕ) (p w : ℕ) (z : ℤ) (e : List ℕ) → OneAnswer (answered end_values e s (write_signmag s p w z))
only_pv_field_write_signmag s p w z e = only_returned (answered end_values e s (write_signmag s p w z))

pub only_pv_frame_check : (s e : List ℕ) → OneAnswer (reads whole_values (check s) e)
only_pv_frame_check s e = only_returned (reads whole_values (check s) e)

pub only_pv_frame_write : (d out e : List ℕ) → OneAnswer (answered end_values e out (write_frame d out))
only_pv_frame_write d out e = only_returned (answered end_values e out (write_frame d out))

pub only_pv_differing : (s t e : List ℕ) → OneAnswer (reads run_values (compare s t) e)
only_pv_differing s t e = only_returned (reads run_values (compare s t) e)

pub only_pv_settings_read : (s : List ℕ) (r x : ℕ) (ns ps e : List ℕ) → OneAnswer (reads_settings ns ps (read_settings s r x ns ps) e)
only_pv_settings_read s r x ns ps e = only_returned (reads_settings ns ps (read_settings s r x ns ps) e)

pub only_pv_settings_write : (d x : ℕ) (ns ps out e : List ℕ) → OneAnswer (answered end_values e out (write_settings d x ns ps out))
only_pv_settings_write d x ns ps out e = only_returned (answered end_values e out (write_settings d x ns ps out))

pub only_pv_cache : (c : Call) (l : List (List ℕ)) (e : List ℕ) → OneAnswer (answered value_values e l (step c l))
only_pv_cache c l e = only_returned (answered value_values e l (step c l))

pub only_pv_cache_lookup : (c : Call) (l : List (List ℕ)) (e : List ℕ) → OneAnswer (reads value_values (step c l).answer e)
only_pv_cache_lookup c l e = only_returned (reads value_values (step c l).answer e)

pub only_pv_feed : (held : List ℕ) (count taken mode : ℕ) (piece out e : List ℕ)
    → OneAnswer (feeds held out (feed_of (framing_of mode) held (scanner_of count taken mode) piece out) e)
only_pv_feed held count taken mode piece out e = only_returned (feeds held out (feed_of (framing_of mode) held (scanner_of count taken mode) piece out) e)

pub only_pv_1059_read : (s : List ℕ) (p : ℕ) (sats gs : List ℕ) (zs : List ℤ) (e : List ℕ) → OneAnswer (answered counted_values e (sats, gs, zs) (read1059 s p sats gs zs))
only_pv_1059_read s p sats gs zs e = only_returned (answered counted_values e (sats, gs, zs) (read1059 s p sats gs zs))

pub only_pv_1059_write : (edition : ℕ) (s : List ℕ) (p : ℕ) (sats gs : List ℕ) (zs : List ℤ) (e : List ℕ) → OneAnswer (answered end_values e s (write1059 edition s p sats gs zs))
only_pv_1059_write edition s p sats gs zs e = only_returned (answered end_values e s (write1059 edition s p sats gs zs))

pub only_pv_1230_read : (s : List ℕ) (p : ℕ) (gs : List ℕ) (zs : List ℤ) (e : List ℕ) → OneAnswer (answered counted_values e (gs, zs) (read1230 s p gs zs))
only_pv_1230_read s p gs zs e = only_returned (answered counted_values e (gs, zs) (read1230 s p gs zs))

pub only_pv_1230_write : (s : List ℕ) (p : ℕ) (gs : List ℕ) (zs : List ℤ) (e : List ℕ) → OneAnswer (answered end_values e s (write1230 s p gs zs))
only_pv_1230_write s p gs zs e = only_returned (answered end_values e s (write1230 s p gs zs))

pub only_pv_1059_metres : (raw : ℤ) → OneValue (metres1059 raw)
only_pv_1059_metres raw = only_value (metres1059 raw)

pub only_pv_1230_metres : (raw : ℤ) → OneValue (metres1230 raw)
only_pv_1230_metres raw = only_value (metres1230 raw)

pub only_pv_signal_of : (system number : ℕ) (e : List ℕ) → OneAnswer (reads signal_values (Accepted (signal_of (table_of system) number)) e)
only_pv_signal_of system number e = only_returned (reads signal_values (Accepted (signal_of (table_of system) number)) e)

pub only_pv_number_of : (system band letter : ℕ) (e : List ℕ) → OneAnswer (reads number_values (Accepted (number_of (table_of system) (sig band letter))) e)
only_pv_number_of system band letter e = only_returned (reads number_values (Accepted (number_of (table_of system) (sig band letter))) e)

pub only_pv_1059_signal_of : (edition number : ℕ) (e : List ℕ) → OneAnswer (reads signal_values (named_signal1059 edition number) e)
only_pv_1059_signal_of edition number e = only_returned (reads signal_values (named_signal1059 edition number) e)

pub only_pv_1059_number_of : (edition band letter : ℕ) (e : List ℕ) → OneAnswer (reads number_values (named_number1059 edition (sig band letter)) e)
only_pv_1059_number_of edition band letter e = only_returned (reads number_values (named_number1059 edition (sig band letter)) e)

pub only_pv_signal_order : (system band1 letter1 band2 letter2 : ℕ) (e : List ℕ)
    → OneAnswer (reads order_values (Accepted (order (table_of system) (sig band1 letter1) (sig band2 letter2))) e)
only_pv_signal_order system band1 letter1 band2 letter2 e =
    only_returned (reads order_values (Accepted (order (table_of system) (sig band1 letter1) (sig band2 letter2))) e)

pub only_pv_1001_read : (s : List ℕ) (l : Lists) (e : List ℕ) → OneAnswer (answered seen_values e l (read1001 s l))
only_pv_1001_read s l e = only_returned (answered seen_values e l (read1001 s l))

pub only_pv_1001_write : (s : List ℕ) (h : Header) (l : Lists) (e : List ℕ) → OneAnswer (answered end_values e s (write1001 s h l))
only_pv_1001_write s h l e = only_returned (answered end_values e s (write1001 s h l))

pub only_pv_1001_pseudorange : (raw : ℕ) (e : List ℕ) → OneAnswer (reads measured_values (Accepted (pseudorange_of raw)) e)
only_pv_1001_pseudorange raw e = only_returned (reads measured_values (Accepted (pseudorange_of raw)) e)

pub only_pv_1001_phase : (raw : ℤ) (e : List ℕ) → OneAnswer (reads measured_values (Accepted (phase_of raw)) e)
only_pv_1001_phase raw e = only_returned (reads measured_values (Accepted (phase_of raw)) e)

pub only_pv_1001_lock : (raw : ℕ) (e : List ℕ) → OneAnswer (reads measured_values (Accepted (lock_of raw)) e)
only_pv_1001_lock raw e = only_returned (reads measured_values (Accepted (lock_of raw)) e)

pub only_pv_why : (s : List ℕ) (q : ℕ) (e : List ℕ) → OneAnswer (reads fate_values (fate_of s q) e)
only_pv_why s q e = only_returned (reads fate_values (fate_of s q) e)

pub only_pv_1059_message_read : (s sats gs : List ℕ) (zs : List ℤ) (e : List ℕ) → OneAnswer (answered message1059_values e (sats, gs, zs) (read_message1059 s sats gs zs))
only_pv_1059_message_read s sats gs zs e = only_returned (answered message1059_values e (sats, gs, zs) (read_message1059 s sats gs zs))

pub only_pv_1059_message_write : (edition : ℕ) (s : List ℕ) (h : Header1059) (sats gs : List ℕ) (zs : List ℤ) (e : List ℕ)
    → OneAnswer (answered end_values e s (write_message1059 edition s h sats gs zs))
only_pv_1059_message_write edition s h sats gs zs e = only_returned (answered end_values e s (write_message1059 edition s h sats gs zs))

pub only_pv_1230_message_read : (s gs : List ℕ) (zs : List ℤ) (e : List ℕ) → OneAnswer (answered message1230_values e (gs, zs) (read_message1230 s gs zs))
only_pv_1230_message_read s gs zs e = only_returned (answered message1230_values e (gs, zs) (read_message1230 s gs zs))

pub only_pv_1230_message_write : (s : List ℕ) (h : Header1230) (gs : List ℕ) (zs : List ℤ) (e : List ℕ) → OneAnswer (answered end_values e s (write_message1230 s h gs zs))
only_pv_1230_message_write s h gs zs e = only_returned (answered end_values e s (write_message1230 s h gs zs))
