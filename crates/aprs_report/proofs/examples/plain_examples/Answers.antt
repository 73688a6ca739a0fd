use Rattle.aprs_report.proofs.Common.{refl}
use Rattle.aprs_report.specs.Reader.{report_by_form, position_of, place_of, plain_of, angle_of}
use Rattle.aprs_report.specs.Reader.{minutes_of, numeral_of, cut_end}
use Rattle.aprs_report.proofs.Readings.{computed}
use Rattle.aprs_report.proofs.examples.plain_examples.Goals as goal

pub returns : goal.returns
unfolding report_by_form position_of place_of plain_of angle_of minutes_of numeral_of cut_end
returns c = record {
  full = computed refl;
  to_tenths = computed refl;
  to_degrees = computed refl;
  only_in_longitude = computed refl;
  corner = computed refl;
  other_corner = computed refl;
  past_the_pole = computed refl;
  past_the_south_pole = computed refl;
  past_the_date_line = computed refl;
  past_it_westward = computed refl;
  most_minutes = computed refl;
  sixty_minutes = computed refl;
  digits_left = computed refl;
  sixty_to_tens = computed refl;
  north = refl;
  west = refl;
}
