use Rattle.aprs_runs.proofs.Histories.{one_history}
use Rattle.aprs_runs.proofs.laws.same_receptions_same_history.Goals as goal

pub returns : goal.returns
returns c = λ gap. one_history gap
