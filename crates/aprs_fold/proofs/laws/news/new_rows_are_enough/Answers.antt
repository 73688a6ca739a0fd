use Rattle.aprs_fold.proofs.NewRows.{merged_is_no_more, nothing_is_lost, taken_is_kept}
use Rattle.aprs_fold.proofs.laws.news.new_rows_are_enough.Goals as goal

pub returns-clause-enough : goal.returns-clause-enough
returns-clause-enough c = λ gap pos. nothing_is_lost gap pos

pub returns-clause-merged : goal.returns-clause-merged
returns-clause-merged c = λ gap pos. merged_is_no_more gap pos

pub returns-clause-taken : goal.returns-clause-taken
returns-clause-taken c = λ gap pos. taken_is_kept gap pos
