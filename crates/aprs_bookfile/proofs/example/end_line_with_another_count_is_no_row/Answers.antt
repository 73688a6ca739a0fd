use Rattle.aprs_bookfile.proofs.Worked.{wrong_end, no_syntax}
use Rattle.aprs_bookfile.proofs.example.end_line_with_another_count_is_no_row.Goals as goal

pub returns-clause-ending : goal.returns-clause-ending
returns-clause-ending c = wrong_end

pub returns-clause-misses_syntax : goal.returns-clause-misses_syntax
returns-clause-misses_syntax c = no_syntax
