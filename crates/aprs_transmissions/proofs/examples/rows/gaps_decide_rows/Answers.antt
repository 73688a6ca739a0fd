use Rattle.aprs_transmissions.proofs.Worked.{near_plain, far_plain}
use Rattle.aprs_transmissions.proofs.examples.rows.gaps_decide_rows.Goals as goal

pub returns-clause-thirty_joins : goal.returns-clause-thirty_joins
returns-clause-thirty_joins c = near_plain

pub returns-clause-a_millisecond_more_does_not : goal.returns-clause-a_millisecond_more_does_not
returns-clause-a_millisecond_more_does_not c = far_plain
