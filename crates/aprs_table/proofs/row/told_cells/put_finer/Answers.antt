use Rattle.aprs_table.proofs.Common.{Puts-is}
use Rattle.aprs_table.proofs.Lines.{tabbed}
use Rattle.aprs_table.proofs.row.told_cells.put_finer.Goals as goal

pub returns-in-Some : goal.returns-in-Some
returns-in-Some g c =
    Puts-is c.put_cells.ensures (tabbed c.finer_cells.result _ c.finer_cells.ensures)
