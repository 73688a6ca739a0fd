use Rattle.aprs_lists.proofs.SentRuns.{plain_is_sent}
use Rattle.aprs_lists.proofs.laws.runs_are_found.Goals as goal

pub returns : goal.returns
returns c = plain_is_sent
