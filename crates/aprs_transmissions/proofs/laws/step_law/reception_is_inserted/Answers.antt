use Rattle.aprs_transmissions.proofs.Inserts.{inserted_is_book, fits_by_test}
use Rattle.aprs_transmissions.proofs.Pushes.{one_relation}
use Rattle.aprs_transmissions.proofs.laws.step_law.reception_is_inserted.Goals as goal

pub returns-clause-book : goal.returns-clause-book
returns-clause-book c = inserted_is_book

pub returns-clause-in_place : goal.returns-clause-in_place
returns-clause-in_place c = λ gap s p w f. fits_by_test gap s p (one_relation gap p w) f
