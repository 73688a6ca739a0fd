use Rattle.aprs_transmissions.proofs.TakenSteps.{steps_give, same_taken}
use Rattle.aprs_transmissions.proofs.laws.step_law.steps_give_books.Goals as goal

pub returns-clause-books : goal.returns-clause-books
returns-clause-books c = steps_give

pub returns-clause-equal : goal.returns-clause-equal
returns-clause-equal c = same_taken
