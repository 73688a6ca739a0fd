use Rattle.aprs_transmissions.proofs.Narrowing.{narrows_not}
use Rattle.aprs_transmissions.proofs.laws.gap_law.gaps_cannot_be_narrowed.Goals as goal

pub returns : goal.returns
returns c = narrows_not
