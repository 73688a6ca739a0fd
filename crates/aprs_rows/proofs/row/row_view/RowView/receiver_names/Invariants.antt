use Rattle.aprs_rows.proofs.Common.{◌≡◌, ◌++◌, length, All, IsName}
use Rattle.aprs_rows.specs.Names.{names_in}
use Rattle.aprs_rows.proofs.row.row_view.RowView.receiver_names.Given as goal

abbrev pub invariant-loop-name : goal.invariant-loop-name
invariant-loop-name g l = record {
  items : l.names.items ++ names_in l.rest ≡ l.fn.self.receivers;
  each : All IsName (names_in l.rest);
}

abbrev pub decreases-loop-name : goal.decreases-loop-name
decreases-loop-name g l = length l.rest
