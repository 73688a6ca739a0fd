use Rattle.aprs_fold.proofs.Folding.{first_is_last, near_joins, far_closes, folded_is_book, written_stays}
use Rattle.aprs_fold.proofs.laws.books.rows_in_order_are_folded.Goals as goal

pub returns-clause-first : goal.returns-clause-first
returns-clause-first c = λ gap. first_is_last gap

pub returns-clause-near : goal.returns-clause-near
returns-clause-near c = λ gap. near_joins gap

pub returns-clause-far : goal.returns-clause-far
returns-clause-far c = λ gap. far_closes gap

pub returns-clause-book : goal.returns-clause-book
returns-clause-book c = λ gap pos. folded_is_book gap pos

pub returns-clause-stays : goal.returns-clause-stays
returns-clause-stays c = λ gap pos. written_stays gap pos
