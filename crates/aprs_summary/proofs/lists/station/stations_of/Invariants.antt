use Rattle.aprs_summary.proofs.Common.{◌≡◌, ◌++◌, map}
use Rattle.aprs_summary.specs.StationRows.{station_in}
use Rattle.aprs_summary.proofs.lists.station.stations_of.Given as goal

abbrev pub invariant-loop-call : goal.invariant-loop-call
invariant-loop-call g l = l.list.items ++ map (station_in l.indexes) l.call-iterator
    ≡ map (station_in l.indexes) l.tallies.entries
