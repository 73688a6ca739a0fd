use Rattle.aprs_bookfile.proofs.CutRows.{lack_an_end}
use Rattle.aprs_bookfile.proofs.laws.cut_rows_lack_an_end.Goals as goal

pub returns : goal.returns
returns c = lack_an_end
