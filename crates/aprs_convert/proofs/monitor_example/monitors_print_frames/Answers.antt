use Rattle.aprs_convert.proofs.Common.{refl}
use Rattle.aprs_report.specs.Reader.{report_by_form, utc_at, stamp_at}
use Rattle.aprs_convert.proofs.monitor_example.monitors_print_frames.Goals as goal

pub returns : goal.returns
unfolding report_by_form utc_at stamp_at
returns c = record {
  direct = refl;
  repeated = refl;
  kind = refl;
  space = refl;
  tilde = refl;
  misses_backslash = refl;
  misses_below = refl;
  misses_above = refl;
}
