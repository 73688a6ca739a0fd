use Rattle.aprs_summary.proofs.Stations.{stations_ascend}
use Rattle.aprs_summary.proofs.lists.station_walk.StationWalk.of.Goals as goal

pub returns-clause-ascending : goal.returns-clause-ascending
returns-clause-ascending g c = stations_ascend c.args.tallies.now.entries c.iter.ensures.ordered
