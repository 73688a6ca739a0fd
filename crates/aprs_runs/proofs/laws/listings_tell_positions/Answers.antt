use Rattle.aprs_runs.proofs.Shows.{tells_position_of}
use Rattle.aprs_runs.proofs.laws.listings_tell_positions.Goals as goal

pub returns : goal.returns
returns c = record { positions = λ gap. tells_position_of gap }
