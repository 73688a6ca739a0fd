use Rattle.aprs_transmissions.proofs.Pushes.{push_exactly}
use Rattle.aprs_transmissions.proofs.laws.step_law.last_row_decides.Goals as goal

pub returns : goal.returns
returns c = push_exactly
