use Rattle.aprs_table.proofs.Common.{refl}
use Rattle.aprs_table.proofs.Steps.{line_of}
use Rattle.aprs_table.proofs.examples.rows.rows_have_moments_and_receivers.Goals as goal

pub returns : goal.returns
unfolding line_of
returns c = record { twice = refl; once = refl }
