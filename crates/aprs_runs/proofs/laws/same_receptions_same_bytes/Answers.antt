use Rattle.aprs_runs.proofs.OneMerge.{book_of_union, one_merge}
use Rattle.aprs_runs.proofs.laws.same_receptions_same_bytes.Goals as goal

pub returns-clause-book : goal.returns-clause-book
returns-clause-book c = λ gap. book_of_union gap

pub returns-clause-one : goal.returns-clause-one
returns-clause-one c = λ gap. one_merge gap
