use Rattle.aprs_report.proofs.Common.{◌≡◌, ◌≤◌, length}
use Rattle.aprs_report.specs.TrailingBytes.{is_trailing}
use Rattle.aprs_report.specs.Reader.{cut_end}
use Rattle.aprs_report.proofs.bytes.Trailing.cut.Given as goal

abbrev pub invariant-loop-rest : goal.invariant-loop-rest
invariant-loop-rest l = record {
  same : cut_end (is_trailing l.self) l.rest ≡ cut_end (is_trailing l.self) l.bytes;
  short : length l.rest ≤ length l.bytes;
}

abbrev pub decreases-loop-rest : goal.decreases-loop-rest
decreases-loop-rest l = length l.rest
