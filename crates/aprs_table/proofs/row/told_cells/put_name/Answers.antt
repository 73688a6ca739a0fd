use Rattle.aprs_table.proofs.Common.{Puts-is}
use Rattle.aprs_table.proofs.Lines.{tabbed}
use Rattle.aprs_table.proofs.row.told_cells.put_name.Goals as goal

pub returns : goal.returns
returns g c = Puts-is c.put_cells.ensures (tabbed c.name_cells.result _ c.name_cells.ensures)
