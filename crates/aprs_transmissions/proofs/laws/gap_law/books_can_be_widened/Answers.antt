use Rattle.aprs_transmissions.proofs.BookValues.{widened_holds, widens_joined_books}
use Rattle.aprs_transmissions.proofs.laws.gap_law.books_can_be_widened.Goals as goal

pub returns-clause-holds : goal.returns-clause-holds
returns-clause-holds c = widened_holds

pub returns-clause-joined : goal.returns-clause-joined
returns-clause-joined c = widens_joined_books
