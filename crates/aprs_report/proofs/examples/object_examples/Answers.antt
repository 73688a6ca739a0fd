use Rattle.aprs_report.proofs.Common.{refl}
use Rattle.aprs_report.specs.Reader.{report_by_form, object_of, item_of, item_field_of, stamp_at}
use Rattle.aprs_report.specs.Reader.{place_of, plain_of, compressed_of, table_at, base91_of}
use Rattle.aprs_report.specs.Reader.{angle_of, minutes_of, numeral_of, cut_end}
use Rattle.aprs_report.proofs.Readings.{computed}
use Rattle.aprs_report.proofs.examples.object_examples.Goals as goal

pub returns : goal.returns
unfolding report_by_form object_of item_of item_field_of stamp_at place_of plain_of compressed_of table_at
    base91_of angle_of minutes_of numeral_of cut_end
returns c = record {
  live = computed refl;
  killed = computed refl;
  no_name = computed refl;
  no_stamp = computed refl;
  local_time = computed refl;
  to_seconds = computed refl;
  no_mark = computed refl;
  item = computed refl;
  killed_item = computed refl;
  two_bytes = computed refl;
  three_bytes = computed refl;
  nine_bytes = computed refl;
  ten_bytes = computed refl;
}
