use Rattle.aprs_lists.proofs.Common.{◌≡◌, List, flat_map, millis_of, subst, BookValue}
use Rattle.aprs_summary.specs.Stations.{ReportsStations}
use Rattle.aprs_summary.specs.declared.lists.station.Station.{Station}
use Rattle.aprs_lists.specs.Stations.{activity_fields, station_line_in, station_line_with, station_table_line}
use Rattle.aprs_lists.proofs.stations.HeardStations.lines.Goals as goal

pub returns : goal.returns
returns g c =
    subst (λ (b : BookValue). (stations : List Station)
    × ReportsStations (millis_of b.gap) b.rows stations
    × (flat_map (station_line_in c.self.inside.activities.entries) c.stations.result
    ≡ flat_map (station_table_line b.rows) stations)) c.self.view_is (
      c.stations.result,
      c.stations.ensures,
      λ i. flat_map (λ x. station_line_with x (activity_fields (c.self.invariant.heard x.call i)
          (c.self.invariant.passed x.call i))) c.stations.result,
    )
