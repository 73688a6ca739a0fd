use Rattle.aprs_fold.proofs.Steps.{begins, begins_book, ends_as_book, takes_on}
use Rattle.aprs_fold.proofs.laws.books.books_are_folded.Goals as goal

pub returns-clause-begins : goal.returns-clause-begins
returns-clause-begins c = λ gap. begins gap

pub returns-clause-takes : goal.returns-clause-takes
returns-clause-takes c = λ gap. takes_on gap

pub returns-clause-ends : goal.returns-clause-ends
returns-clause-ends c = λ gap pos. ends_as_book gap pos

pub returns-clause-stays : goal.returns-clause-stays
returns-clause-stays c = λ gap pos. begins_book gap pos
