use Rattle.aprs_table.proofs.Common.{Puts-is}
use Rattle.aprs_table.proofs.Lines.{tabbed}
use Rattle.aprs_table.proofs.row.told_cells.put_says.Goals as goal

pub returns : goal.returns
returns g c = Puts-is c.put_cells.ensures (tabbed c.says_cells.result _ c.says_cells.ensures)
