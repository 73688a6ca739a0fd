use Rattle.aprs_summary.proofs.Common.{subst, sym, BookValue, millis_of}
use Rattle.aprs_summary.specs.Stations.{ReportsStations}
use Rattle.aprs_summary.proofs.Stations.{stations_of_book}
use Rattle.aprs_summary.proofs.lists.summary.Summary.stations.Goals as goal

pub returns : goal.returns
returns g c =
    subst (λ (b : BookValue). ReportsStations (millis_of b.gap) b.rows c.of.result) c.self.view_is
    (subst (ReportsStations _ _) (sym c.of.ensures.stations)
    (stations_of_book _ _ c.self.inside.indexes c.self.inside.tallies.entries
    c.self.invariant.1 c.self.invariant.0 c.of.ensures.ascending))
