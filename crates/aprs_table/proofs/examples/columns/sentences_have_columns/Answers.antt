use Rattle.aprs_table.proofs.Common.{refl}
use Rattle.aprs_table.proofs.Steps.{line_of}
use Rattle.aprs_table.proofs.examples.columns.sentences_have_columns.Goals as goal

pub returns : goal.returns
unfolding line_of
returns c = record { rmc = refl; gga = refl; below_the_sea = refl; misses = refl }
