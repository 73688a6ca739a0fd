use Rattle.aprs_lists.proofs.Common.{◌++◌, ℕ, List, ap}
use Rattle.aprs_lists.specs.Lines.{tabbed_line}
use Rattle.aprs_lists.specs.Stations.{station_columns}
use Rattle.aprs_lists.proofs.stations.write_stations.Goals as goal

pub returns : goal.returns
returns g c = (
  tabbed_line station_columns ++ c.lines.result,
  record {
    stations = c.lines.ensures.0;
    are_stations = c.lines.ensures.1;
    text_is = ap (λ (l : List ℕ). tabbed_line station_columns ++ l) c.lines.ensures.2;
  },
  c.write_table.ensures,
)
