-- The program's exit status for a run's fault.
use Rattle.std.specs.Prelude.{ℕ}
use Rattle.aprs_log.specs.declared.fault.LogCause.{LogCause}
use Rattle.aprs_log.specs.declared.fault.LogCause.TheVariants as cause
use Rattle.aprs_bookfile.specs.declared.fault.BookCause.{BookCause}
use Rattle.aprs_bookfile.specs.declared.fault.BookCause.TheVariants as book
use Rattle.aprs_runs.specs.declared.fault.InputFault.{InputFault}
use Rattle.aprs_runs.specs.declared.fault.InputFault.TheVariants.{Log, Book, Memory, OtherGap, Narrower}
use Rattle.aprs_runs.specs.declared.fault.RunFault.{RunFault}
use Rattle.aprs_runs.specs.declared.fault.RunFault.TheVariants.{Input, Write}
use Rattle.aprs_runs.specs.declared.fault.RunFault.TheVariants as run

-- The status for a log's cause: 4 where an allocation failed, 1 for every other cause.
abbrev pub status_of_cause : LogCause → ℕ
status_of_cause cause.Memory = 4
status_of_cause other = 1

-- The status for a book file's cause: 4 where an allocation failed, 1 for every other cause.
abbrev pub status_of_book_cause : BookCause → ℕ
status_of_book_cause book.Memory = 4
status_of_book_cause other = 1

-- The status for an input's fault: 4 where an allocation failed, 1 for any other fault.
abbrev pub status_of_input : InputFault → ℕ
status_of_input (Log fault) = status_of_cause fault.cause
status_of_input (Book fault) = status_of_book_cause fault.cause
status_of_input Memory = 4
status_of_input OtherGap = 1
status_of_input Narrower = 1

-- The status for a run's fault: that of an input's fault, 3 where the output was refused, and 4
-- where an allocation failed.
abbrev pub status_of_fault : RunFault → ℕ
status_of_fault (Input index fault) = status_of_input fault
status_of_fault Write = 3
status_of_fault run.Memory = 4
