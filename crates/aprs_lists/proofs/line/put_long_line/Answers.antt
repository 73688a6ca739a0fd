use Rattle.aprs_lists.proofs.Common.{◌before◌, Puts-is, cells_put, refused}
use Rattle.aprs_lists.proofs.Lines.{in_parts}
use Rattle.aprs_lists.proofs.line.put_long_line.Goals as goal

pub returns-in_err-put_cell : goal.returns-in_err-put_cell
returns-in_err-put_cell g c =
    Puts-is (refused c.from_residual.ensures.0 c.in_err-put_cell.ensures _)
    (in_parts c.args.first.now c.args.second.now c.args.third.now c.args.fourth.now)

pub returns-in_err-put_cells : goal.returns-in_err-put_cells
returns-in_err-put_cells g c =
    Puts-is (c.in_ok-put_cell.ensures
    before refused c.from_residual-in_err-put_cells.ensures.0
    (cells_put c.args.second.now c.in_err-put_cells.ensures) _)
    (in_parts c.args.first.now c.args.second.now c.args.third.now c.args.fourth.now)

pub returns-in_err-put_cells-2 : goal.returns-in_err-put_cells-2
returns-in_err-put_cells-2 g c =
    Puts-is (c.in_ok-put_cell.ensures
    before cells_put c.args.second.now c.in_ok-put_cells.ensures
    before refused c.from_residual-in_err-put_cells-2.ensures.0
    (cells_put c.args.third.now c.in_err-put_cells-2.ensures) _)
    (in_parts c.args.first.now c.args.second.now c.args.third.now c.args.fourth.now)

pub returns-in_err-put_cells-3 : goal.returns-in_err-put_cells-3
returns-in_err-put_cells-3 g c =
    Puts-is (c.in_ok-put_cell.ensures
    before cells_put c.args.second.now c.in_ok-put_cells.ensures
    before cells_put c.args.third.now c.in_ok-put_cells-2.ensures
    before refused c.from_residual-in_err-put_cells-3.ensures.0
    (cells_put c.args.fourth.now c.in_err-put_cells-3.ensures) _)
    (in_parts c.args.first.now c.args.second.now c.args.third.now c.args.fourth.now)

pub returns : goal.returns
returns g c =
    Puts-is (c.in_ok-put_cell.ensures
    before cells_put c.args.second.now c.in_ok-put_cells.ensures
    before cells_put c.args.third.now c.in_ok-put_cells-2.ensures
    before cells_put c.args.fourth.now c.in_ok-put_cells-3.ensures before c.put.ensures)
    (in_parts c.args.first.now c.args.second.now c.args.third.now c.args.fourth.now)
