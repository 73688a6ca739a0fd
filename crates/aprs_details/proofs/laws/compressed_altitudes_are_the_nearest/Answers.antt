use Rattle.aprs_details.proofs.Powers.{altitude_is_nearest}
use Rattle.aprs_details.proofs.laws.compressed_altitudes_are_the_nearest.Goals as goal

pub returns : goal.returns
returns c = λ cs. altitude_is_nearest cs
