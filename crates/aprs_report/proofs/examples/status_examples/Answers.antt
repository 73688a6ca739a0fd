use Rattle.aprs_report.proofs.Common.{refl}
use Rattle.aprs_report.specs.Reader.{report_by_form, utc_at, stamp_at}
use Rattle.aprs_report.proofs.Readings.{computed}
use Rattle.aprs_report.proofs.examples.status_examples.Goals as goal

pub returns : goal.returns
unfolding report_by_form utc_at stamp_at
returns c = record {
  plain = computed refl;
  utc = computed refl;
  local = computed refl;
}
