use Rattle.aprs_summary.proofs.Common.{refl}
use Rattle.aprs_report.specs.Reader.{report_by_form, object_of, item_of, item_field_of, stamp_at, place_of, plain_of, angle_of, minutes_of, numeral_of, cut_end}
use Rattle.aprs_transmissions.specs.Key.{key_of}
use Rattle.aprs_summary.proofs.examples.reports.things_are_reported_by_name.Goals as goal

pub returns : goal.returns
unfolding key_of report_by_form object_of item_of item_field_of stamp_at place_of plain_of angle_of
    minutes_of numeral_of cut_end
returns c = record {
  object = refl;
  item = refl;
  misses_object = refl;
  misses_item = refl;
  misses_name = refl;
  misses_name_of_item = refl;
}
