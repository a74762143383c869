-- The marked examples hold, computed from the definitions. Assumes nothing.
use mathlib.Core.Path.{refl}
use Rattle.bits.specs.Signed.{twos_of, signmag_of}
use Rattle.bits.specs.Field.{field, read_by, with_bit, set_bit, put_field, write_by}
use Rattle.bits.specs.Fields.{total, put_all}
use Rattle.bits.specs.Crc.{crc_bit, crc_bits, crc_byte, crc_from, crc}
use Rattle.formats.specs.Format.{fields_each}
use Rattle.formats.specs.Written.{first_fault, put_run}
use Rattle.frames.specs.Frame.{check}
use Rattle.frames.specs.Rtcm.{rtcm}
use Rattle.frames.specs.Call.{feed_of}
use Rattle.messages.specs.Every.{Every, gather}
use Rattle.messages.specs.Records.{records1059, records1230}
use Rattle.messages.specs.Signals.{signal_of}
use Rattle.messages.specs.Signals1059.{edition1, known_edition, signals1059, is_signal1059}
use Rattle.messages.specs.Writer.{is_among, first_repeat, write_run}
use Rattle.messages.specs.Write1059.{fault1059, crowded, present, fields1059, refused_records1059, refused1059, write1059}
use Rattle.messages.specs.Layout1059.{of_satellite, with_some, grouped_from}
use Rattle.messages.specs.Write1230.{fault1230, fields1230, refused1230, write1230}
use Rattle.messages.specs.Layout1230.{of_signal, mask_of}
use Rattle.marked.specs.MarkedExamples.{Given, examples}

pub marked : Every Given examples
unfolding twos_of signmag_of field read_by with_bit set_bit put_field write_by total put_all crc_bit crc_bits crc_byte crc_from crc check rtcm feed_of records1059 records1230 signal_of edition1 known_edition signals1059 is_signal1059 first_fault is_among first_repeat put_run write_run fault1059 of_satellite crowded present with_some grouped_from gather fields_each fields1059 refused_records1059 refused1059 write1059 fault1230 of_signal mask_of fields1230 refused1230 write1230
marked =
    (refl, (refl, (refl, (refl, (refl, (refl, (refl, ((refl, refl, refl), (refl, ((refl, refl, refl), (refl, (refl, (refl, (refl, (refl, (refl, tt))))))))))))))))
