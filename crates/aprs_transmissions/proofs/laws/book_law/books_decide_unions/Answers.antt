use Rattle.aprs_transmissions.proofs.RunRows.{books_decide_union, union_is_joined}
use Rattle.aprs_transmissions.proofs.laws.book_law.books_decide_unions.Goals as goal

pub returns-clause-alone : goal.returns-clause-alone
returns-clause-alone c = books_decide_union

pub returns-clause-joined : goal.returns-clause-joined
returns-clause-joined c = union_is_joined
