use Rattle.aprs_report.proofs.Common.{refl}
use Rattle.aprs_report.specs.Reader.{report_by_form, stamped_position_of, stamp_at, position_of, place_of, plain_of, compressed_of, table_at, base91_of, angle_of, minutes_of, numeral_of, cut_end}
use Rattle.aprs_report.proofs.Readings.{computed}
use Rattle.aprs_report.proofs.examples.stamped_examples.Goals as goal

pub returns : goal.returns
unfolding report_by_form stamped_position_of stamp_at position_of place_of plain_of compressed_of table_at base91_of angle_of minutes_of numeral_of cut_end
returns c = record {
  no_messages = computed refl;
  messages = computed refl;
  local_time = computed refl;
  to_seconds = computed refl;
  no_stamp = computed refl;
  before_digits = computed refl;
  after_digits = computed refl;
  text = refl;
}
