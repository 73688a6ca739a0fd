use Rattle.aprs_summary.proofs.Common.{refl}
use Rattle.aprs_report.specs.Reader.{report_by_form, utc_at, stamp_at, position_of, place_of, plain_of, angle_of, minutes_of, numeral_of, cut_end}
use Rattle.aprs_summary.proofs.examples.reports.stations_report.Goals as goal

pub returns : goal.returns
unfolding report_by_form utc_at stamp_at position_of place_of plain_of angle_of minutes_of numeral_of
    cut_end
returns c = record {
  position = refl;
  status = refl;
  misses_status = refl;
  misses_position = refl;
  misses_station = refl;
  misses_station_of_status = refl;
}
