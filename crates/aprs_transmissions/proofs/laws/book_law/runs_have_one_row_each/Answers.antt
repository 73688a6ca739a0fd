use Rattle.aprs_transmissions.proofs.RunRows.{one_row_each}
use Rattle.aprs_transmissions.proofs.laws.book_law.runs_have_one_row_each.Goals as goal

pub returns : goal.returns
returns c = one_row_each
