use Rattle.aprs_table.proofs.Common.{Puts-is}
use Rattle.aprs_table.proofs.Lines.{tabbed}
use Rattle.aprs_table.proofs.row.told_cells.put_more.Goals as goal

pub returns-in_default : goal.returns-in_default
returns-in_default g c =
    Puts-is c.put_cells.ensures (tabbed c.more_cells.result _ c.more_cells.ensures)
