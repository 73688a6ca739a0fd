use Rattle.aprs_runs.proofs.Worked.{empty_file, no_cut_file, no_failed_file, no_other_gap}
use Rattle.aprs_runs.proofs.example.book_files_stand_for_their_sets.Goals as goal

pub returns : goal.returns
returns c = record {
  empty = empty_file;
  misses_other_gap = no_other_gap;
  misses_failed_read = no_failed_file;
  misses_cut_short = no_cut_file;
}
