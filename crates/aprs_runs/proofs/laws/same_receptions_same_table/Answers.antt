use Rattle.aprs_runs.proofs.Tables.{one_table}
use Rattle.aprs_runs.proofs.laws.same_receptions_same_table.Goals as goal

pub returns : goal.returns
returns c = λ t gap. one_table t gap
