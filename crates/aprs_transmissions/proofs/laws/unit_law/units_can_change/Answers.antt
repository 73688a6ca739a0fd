use Rattle.aprs_transmissions.proofs.Scaling.{scales_book}
use Rattle.aprs_transmissions.proofs.laws.unit_law.units_can_change.Goals as goal

pub returns : goal.returns
returns c = scales_book
