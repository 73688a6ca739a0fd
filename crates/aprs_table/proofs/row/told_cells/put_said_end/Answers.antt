use Rattle.aprs_table.proofs.Chains.{◌before◌, refused}
use Rattle.aprs_table.proofs.row.told_cells.put_said_end.Goals as goal

pub returns-in_err-put_more : goal.returns-in_err-put_more
returns-in_err-put_more g c = refused c.from_residual.ensures.0 c.in_err-put_more.ensures _

pub returns : goal.returns
returns g c = c.in_ok-put_more.ensures before c.put_known_end.ensures
