use Rattle.aprs_io.proofs.SoFar.{PutSoFar-broken, PutSoFar-more, PutSoFar-none}
use Rattle.aprs_lists.proofs.listing.put_stations.Goals as goal

pub loop-station-init : goal.loop-station-init
loop-station-init g c = PutSoFar-none _ _

pub loop-station-preserved : goal.loop-station-preserved
loop-station-preserved g c =
    PutSoFar-more c.loop-station.invariant _ _ c.in-Some.ensures c.in_ok-put_station.ensures

pub returns-in_err-put_station : goal.returns-in_err-put_station
returns-in_err-put_station g c =
    PutSoFar-broken c.loop-station.invariant _ _ c.in-Some.ensures _ c.from_residual.ensures.0
    c.in_err-put_station.ensures
