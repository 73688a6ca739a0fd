use Rattle.aprs_table.proofs.Common.{◌∙◌, ap, sym, Option, Puts-is, option_map}
use Rattle.aprs_details.specs.Frequency.{frequency_view}
use Rattle.aprs_details.specs.declared.frequency.Frequency.{Frequency}
use Rattle.aprs_table.specs.Cells.{frequency_cells}
use Rattle.aprs_table.proofs.Lines.{tabbed}
use Rattle.aprs_table.proofs.row.told_cells.put_frequency.Goals as goal

pub returns-in-Some : goal.returns-in-Some
returns-in-Some g c =
    Puts-is c.put_cells.ensures (tabbed c.frequency_cells.result _
    (c.frequency_cells.ensures ∙ sym (ap (λ (o : Option Frequency). frequency_cells (option_map frequency_view o)) c.in-Some.is)))
