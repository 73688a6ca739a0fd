use Rattle.aprs_table.proofs.Chains.{◌before◌, cells_put, refused}
use Rattle.aprs_table.proofs.row.put_passed_line.Goals as goal

pub returns-in_err-put : goal.returns-in_err-put
returns-in_err-put g c = refused c.from_residual.ensures.0 c.in_err-put.ensures _

pub returns-in_err-put_heard : goal.returns-in_err-put_heard
returns-in_err-put_heard g c = c.in_ok-put.ensures
    before refused c.from_residual-in_err-put_heard.ensures.0 c.in_err-put_heard.ensures _

pub returns-in_err-put_cells : goal.returns-in_err-put_cells
returns-in_err-put_cells g c = c.in_ok-put.ensures before c.in_ok-put_heard.ensures
    before refused c.from_residual-in_err-put_cells.ensures.0
    (cells_put c.args.from.now c.in_err-put_cells.ensures) _

pub returns : goal.returns
returns g c = c.in_ok-put.ensures before c.in_ok-put_heard.ensures
    before cells_put c.args.from.now c.in_ok-put_cells.ensures before c.put_told.ensures
