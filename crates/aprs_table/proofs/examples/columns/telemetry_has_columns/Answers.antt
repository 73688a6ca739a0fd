use Rattle.aprs_table.proofs.Common.{refl}
use Rattle.aprs_table.proofs.Steps.{line_of}
use Rattle.aprs_table.proofs.examples.columns.telemetry_has_columns.Goals as goal

pub returns : goal.returns
unfolding line_of
returns c = record { report = refl; unnumbered = refl; comment = refl; without_bits = refl }
