use Rattle.aprs_convert.proofs.Worked.{no_other_totals, second}
use Rattle.aprs_convert.proofs.example.checks_name_lines.Goals as goal

pub returns : goal.returns
returns c = record { second = second; misses_totals = no_other_totals }
