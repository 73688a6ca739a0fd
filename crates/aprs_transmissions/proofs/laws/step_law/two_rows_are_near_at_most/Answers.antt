use Rattle.aprs_transmissions.proofs.NearRows.{two_of_three}
use Rattle.aprs_transmissions.proofs.laws.step_law.two_rows_are_near_at_most.Goals as goal

pub returns : goal.returns
returns c = two_of_three
