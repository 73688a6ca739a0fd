use Rattle.aprs_report.proofs.Common.{refl}
use Rattle.aprs_report.specs.Reader.{report_by_form, position_of, place_of, plain_of, compressed_of, table_at, base91_of, angle_of, minutes_of, numeral_of, cut_end}
use Rattle.aprs_report.proofs.Readings.{computed}
use Rattle.aprs_report.proofs.examples.symbol_examples.Goals as goal

pub returns : goal.returns
unfolding report_by_form position_of place_of plain_of compressed_of table_at base91_of angle_of minutes_of numeral_of cut_end
returns c = record {
  primary = computed refl;
  alternate = computed refl;
  least_digit = computed refl;
  greatest_digit = computed refl;
  least_capital = computed refl;
  greatest_capital = computed refl;
  before_primary = computed refl;
  after_digits = computed refl;
  before_capitals = computed refl;
  after_capitals = computed refl;
  after_alternate = computed refl;
  letter = computed refl;
  space = computed refl;
  rubout = computed refl;
  nought = computed refl;
  nine = computed refl;
  before_nought = computed refl;
  after_nine = computed refl;
}
