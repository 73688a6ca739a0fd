use Rattle.aprs_table.proofs.Common.{◌∙◌, ap, sym, Option, Puts-is}
use Rattle.aprs_details.specs.declared.comment_telemetry.CommentTelemetry.{CommentTelemetry}
use Rattle.aprs_table.specs.Cells.{commented_cells}
use Rattle.aprs_table.proofs.Lines.{tabbed}
use Rattle.aprs_table.proofs.row.told_cells.put_measured.Goals as goal

pub returns-in-Some : goal.returns-in-Some
returns-in-Some g c =
    Puts-is c.put_cells.ensures (tabbed c.comment_telemetry_cells.result _
    (c.comment_telemetry_cells.ensures ∙ sym (ap (λ (o : Option CommentTelemetry). commented_cells o) c.in-Some.is)))
