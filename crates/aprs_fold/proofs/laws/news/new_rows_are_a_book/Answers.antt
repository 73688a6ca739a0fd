use Rattle.aprs_fold.proofs.NewRows.{new_are_lacking, new_are_sound, none_is_new}
use Rattle.aprs_fold.proofs.laws.news.new_rows_are_a_book.Goals as goal

pub returns-clause-lacking : goal.returns-clause-lacking
returns-clause-lacking c = new_are_lacking

pub returns-clause-sound : goal.returns-clause-sound
returns-clause-sound c = λ gap. new_are_sound gap

pub returns-clause-none : goal.returns-clause-none
returns-clause-none c = λ gap pos. none_is_new gap pos
