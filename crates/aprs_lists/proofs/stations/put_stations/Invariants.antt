use Rattle.aprs_lists.proofs.Common.{length, PutSoFar}
use Rattle.aprs_lists.specs.Stations.{station_line_in}
use Rattle.aprs_lists.proofs.stations.put_stations.Given as goal

abbrev pub invariant-loop-station : goal.invariant-loop-station
invariant-loop-station g l = PutSoFar (station_line_in l.activities.entries) g.W.Write.contents
    l.initial.out l.out l.initial.walk l.walk

abbrev pub decreases-loop-station : goal.decreases-loop-station
decreases-loop-station g l = length l.walk
