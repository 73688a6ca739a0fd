use Rattle.aprs_log.proofs.Clocks.{first_day}
use Rattle.aprs_log.proofs.moment.clock.Clock.new.Goals as goal

pub invariant_of-result-2 : goal.invariant_of-result-2
invariant_of-result-2 c = record { reads = first_day }
