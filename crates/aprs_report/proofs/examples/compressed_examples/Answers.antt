use Rattle.aprs_report.proofs.Common.{refl}
use Rattle.aprs_report.specs.Reader.{report_by_form, position_of, place_of, compressed_of, table_at}
use Rattle.aprs_report.specs.Reader.{base91_of, numeral_of}
use Rattle.aprs_report.proofs.Readings.{computed}
use Rattle.aprs_report.proofs.examples.compressed_examples.Goals as goal

pub returns : goal.returns
unfolding report_by_form position_of place_of compressed_of table_at base91_of numeral_of
returns c = record {
  full = computed refl;
  south_pole = computed refl;
  past_the_pole = computed refl;
  end_of_the_east = computed refl;
  past_the_east = computed refl;
  overlay = computed refl;
  north = refl;
  south = refl;
  west = refl;
  east = refl;
}
