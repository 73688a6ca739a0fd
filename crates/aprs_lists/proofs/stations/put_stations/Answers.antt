use Rattle.aprs_lists.proofs.Common.{ap, Puts-is, PutSoFar-broken, PutSoFar-more, PutSoFar-none}
use Rattle.aprs_lists.specs.Stations.{station_line_by}
use Rattle.aprs_lists.proofs.stations.put_stations.Goals as goal

pub loop-station-init : goal.loop-station-init
loop-station-init g c = PutSoFar-none _ _

pub loop-station-preserved : goal.loop-station-preserved
loop-station-preserved g c =
    PutSoFar-more c.loop-station.invariant _ _ c.in-Some.ensures
    (Puts-is c.in_ok-put_station.ensures
    (ap (station_line_by c.in-Some.station) c.get.ensures.value))

pub returns-in_err-put_station : goal.returns-in_err-put_station
returns-in_err-put_station g c =
    PutSoFar-broken c.loop-station.invariant _ _ c.in-Some.ensures _ c.from_residual.ensures.0
    (Puts-is c.in_err-put_station.ensures
    (ap (station_line_by c.in-Some.station) c.get.ensures.value))
