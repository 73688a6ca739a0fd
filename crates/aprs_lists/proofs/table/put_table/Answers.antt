use Rattle.aprs_lists.proofs.Common.{Puts-fails, Puts-then}
use Rattle.aprs_lists.proofs.table.put_table.Goals as goal

pub returns-in_err-put : goal.returns-in_err-put
returns-in_err-put g c =
    Puts-fails {x = c.args.columns.now} c.from_residual.result c.from_residual.ensures.0
    c.in_err-put.ensures _

pub returns : goal.returns
returns g c = Puts-then {x = c.args.columns.now} c.in_ok-put.ensures c.put_lines.ensures
