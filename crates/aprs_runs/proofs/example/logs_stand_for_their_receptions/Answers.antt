use Rattle.aprs_runs.proofs.Worked.{empty_log, no_failed_read, no_reception, no_unended}
use Rattle.aprs_runs.proofs.example.logs_stand_for_their_receptions.Goals as goal

pub returns : goal.returns
returns c = record {
  empty = empty_log;
  misses_reception = no_reception;
  misses_failed_read = no_failed_read;
  misses_unended = no_unended;
}
