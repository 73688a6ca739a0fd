use Rattle.aprs_table.proofs.OneLines.{lines_of_told}
use Rattle.aprs_table.proofs.laws.histories_have_one_line_each.Goals as goal

pub returns : goal.returns
returns c = lines_of_told
