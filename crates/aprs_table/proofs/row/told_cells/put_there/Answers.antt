use Rattle.aprs_table.proofs.Common.{Puts-is, ◌∙◌}
use Rattle.aprs_table.proofs.Chains.{◌before◌, refused}
use Rattle.aprs_table.proofs.Lines.{place_and_symbol}
use Rattle.aprs_table.proofs.row.told_cells.put_there.Goals as goal

pub returns-in_err-put : goal.returns-in_err-put
returns-in_err-put g c = Puts-is (refused c.from_residual.ensures.0
    (Puts-is c.in_err-put.ensures (c.as_slice.ensures.value ∙ c.place_text.ensures)) _)
    (place_and_symbol _ _ _ _ _)

pub returns : goal.returns
returns g c = Puts-is
    (Puts-is c.in_ok-put.ensures (c.as_slice.ensures.value ∙ c.place_text.ensures)
    before c.put_symbol.ensures)
    (place_and_symbol _ _ _ _ _)
