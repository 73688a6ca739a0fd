use Rattle.aprs_book.proofs.Common.{sound_prefix, none_exactly}
use Rattle.aprs_book.proofs.rows.push.sound_rows_are_pushed.Goals as goal

pub returns-clause-exactly : goal.returns-clause-exactly
returns-clause-exactly c = none_exactly

pub returns-clause-prefix : goal.returns-clause-prefix
returns-clause-prefix c = sound_prefix
