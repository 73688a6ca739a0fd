use Rattle.aprs_table.proofs.Common.{◌∙◌, ap, sym, Option, Puts-is}
use Rattle.aprs_details.specs.declared.extension.Transmitter.{Transmitter}
use Rattle.aprs_table.specs.Cells.{phg_cells}
use Rattle.aprs_table.proofs.Lines.{tabbed}
use Rattle.aprs_table.proofs.row.told_cells.put_phg.Goals as goal

pub returns-in-Some : goal.returns-in-Some
returns-in-Some g c =
    Puts-is c.put_cells.ensures (tabbed c.phg_cells.result _
    (c.phg_cells.ensures ∙ sym (ap (λ (o : Option Transmitter). phg_cells o) c.in-Some.is)))
