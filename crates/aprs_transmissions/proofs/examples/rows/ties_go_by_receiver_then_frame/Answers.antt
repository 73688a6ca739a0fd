use Rattle.aprs_transmissions.proofs.Worked.{tied_plain}
use Rattle.aprs_transmissions.proofs.examples.rows.ties_go_by_receiver_then_frame.Goals as goal

pub returns-clause-receiver : goal.returns-clause-receiver
returns-clause-receiver c = tied_plain
