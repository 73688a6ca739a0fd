use Rattle.aprs_convert.proofs.Worked.{empty, no_failed_read, no_other_number}
use Rattle.aprs_convert.proofs.example.checks_count_lines.Goals as goal

pub returns : goal.returns
returns c = record {
  empty = empty;
  misses_number = no_other_number;
  misses_failed_read = no_failed_read;
}
