use Rattle.aprs_bookfile.proofs.Worked.{second_line, no_third_line}
use Rattle.aprs_bookfile.proofs.example.memory_is_refused_in_a_line.Goals as goal

pub returns-clause-second : goal.returns-clause-second
returns-clause-second c = second_line

pub returns-clause-misses_third : goal.returns-clause-misses_third
returns-clause-misses_third c = no_third_line
