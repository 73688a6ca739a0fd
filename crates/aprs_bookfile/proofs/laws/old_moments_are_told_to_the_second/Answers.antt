use Rattle.aprs_bookfile.proofs.Accepting.{written_to_the_second}
use Rattle.aprs_bookfile.proofs.laws.old_moments_are_told_to_the_second.Goals as goal

pub returns : goal.returns
returns c = written_to_the_second
