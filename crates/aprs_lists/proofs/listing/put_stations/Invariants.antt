use Rattle.aprs_lists.proofs.Common.{length}
use Rattle.aprs_lists.specs.Listing.{station_lines}
use Rattle.aprs_io.proofs.SoFar.{PutSoFar}
use Rattle.aprs_lists.proofs.listing.put_stations.Given as goal

abbrev pub invariant-loop-station : goal.invariant-loop-station
invariant-loop-station g l =
    PutSoFar station_lines g.W.Write.contents l.initial.out l.out l.initial.stations l.stations

abbrev pub decreases-loop-station : goal.decreases-loop-station
decreases-loop-station g l = length l.stations
