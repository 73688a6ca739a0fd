use Rattle.aprs_fold.proofs.Beside.{last_decides}
use Rattle.aprs_fold.proofs.laws.news.old_rows_are_seen.Goals as goal

pub returns : goal.returns
returns c = λ gap pos. last_decides gap pos
