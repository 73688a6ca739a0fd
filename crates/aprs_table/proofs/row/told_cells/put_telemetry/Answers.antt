use Rattle.aprs_table.proofs.Common.{◌∙◌, ap, sym, Option, Puts-is, option_map}
use Rattle.aprs_details.specs.Telemetry.{telemetry_view}
use Rattle.aprs_details.specs.declared.telemetry.Telemetry.{Telemetry}
use Rattle.aprs_table.specs.Cells.{measured_cells}
use Rattle.aprs_table.proofs.Lines.{tabbed}
use Rattle.aprs_table.proofs.row.told_cells.put_telemetry.Goals as goal

pub returns-in-Some : goal.returns-in-Some
returns-in-Some g c =
    Puts-is c.put_cells.ensures (tabbed c.telemetry_cells.result _
    (c.telemetry_cells.ensures ∙ sym (ap (λ (o : Option Telemetry). measured_cells (option_map telemetry_view o) c.args.measured) c.in-Some.is)))
