-- Worked examples of how a run ends.
-- No public clause but those of examples cites this module.
use Rattle.std.specs.Prelude.{ℕ, List, Err}
use Rattle.aprs_log.specs.declared.fault.LogCause.{LogCause}
use Rattle.aprs_bookfile.specs.declared.fault.BookCause.{BookCause}
use Rattle.aprs_runs.specs.declared.fault.InputFault.{InputFault}
use Rattle.aprs_runs.specs.declared.fault.InputFault.TheVariants.{Log, Book}
use Rattle.aprs_runs.specs.declared.fault.RunFault.TheVariants.{Input}
use Rattle.aprs_web.specs.Answer.{Outcome, status_of_outcome, number_at_fault, line_at_fault, name_at_fault}

-- What an answer tells of an outcome: the status, the number and the line of the input at fault,
-- and the name of its fault.
abbrev pub told : Outcome → ℕ × ℕ × ℕ × List ℕ
told outcome = (
  status_of_outcome outcome,
  number_at_fault outcome,
  line_at_fault outcome,
  name_at_fault outcome,
)

-- The input of this number, from 0, is at fault.
abbrev pub at_input : ℕ → InputFault → Outcome
at_input index fault = Err (Input index fault)

-- A log is at fault in this line.
abbrev pub log_at : ℕ → LogCause → InputFault
log_at line cause = Log (record { line = line; cause = cause })

-- A book file is at fault in this line.
abbrev pub book_at : ℕ → BookCause → InputFault
book_at line cause = Book (record { line = line; cause = cause })
