-- The answers of a log: its lines in order, up to the first fault.
use Rattle.std.specs.Prelude.{ℕ, ◌+◌, Bool, if◌then◌else◌, List, [], ◌∷◌, length, Option, None, Some, Result, Ok, Err, nat_lt}
use Rattle.std.specs.List.{slice_split}
use Rattle.aprs_io.specs.Cut.{is_byte}
use Rattle.aprs_log.specs.Fault.{log_cause_of}
use Rattle.aprs_log.specs.Line.{line_of}
use Rattle.aprs_log.specs.Reception.{Received}
use Rattle.aprs_log.specs.Sizes.{most_line}
use Rattle.aprs_log.specs.declared.line.Line.{Line}
use Rattle.aprs_log.specs.declared.line.Line.TheVariants as line
use Rattle.aprs_log.specs.declared.fault.LineFault.{LineFault}
use Rattle.aprs_log.specs.declared.fault.LogCause.{LogCause}
use Rattle.aprs_log.specs.declared.fault.LogCause.TheVariants as cause
use Rattle.aprs_log.specs.declared.fault.LogFault.{LogFault}
use Rattle.aprs_io.specs.declared.input.InputEnd.{InputEnd}
use Rattle.aprs_io.specs.declared.input.InputEnd.TheVariants.{End, Read, TooLong}
pub use Rattle.aprs_io.specs.Input.{EndsSo, Gets}

-- LF, which ends a line.
abbrev pub is_lf : ℕ → Bool
is_lf b = is_byte 10 b

-- Why a log ends at a tail of no more bytes than a line may have, unless it ends well.
abbrev pub short_tail_cause : InputEnd → List ℕ → Option LogCause
short_tail_cause Read tail = Some cause.Read
short_tail_cause TooLong tail = Some cause.TooLong
short_tail_cause End [] = None
short_tail_cause End (b ∷ bs) = Some cause.NoNewline

-- Why a log ends at what stands after its last LF, by how the input ended after that.
abbrev pub tail_cause : List ℕ → InputEnd → Option LogCause
tail_cause tail ending =
    if nat_lt most_line (length tail) then Some cause.LongLine else short_tail_cause ending tail

-- The lines that are given, and the fault after them, if there is one.
pub record Answers : Type 0 where
  pub given : List Line
  pub fault : Option LogFault

-- The fault with this cause in line n, if there is a cause.
abbrev pub fault_at : ℕ → Option LogCause → Option LogFault
fault_at n None = None
fault_at n (Some cause) = Some (record { line = n; cause = cause })

-- No line, and then this fault or the end.
abbrev pub end_with : Option LogFault → Answers
end_with fault = record { given = []; fault = fault }

-- This line, and then these answers.
abbrev pub prepend_line : Line → Answers → Answers
prepend_line x answers = record { given = x ∷ answers.given; fault = answers.fault }

-- What line n gives, and then the rest, which a fault cuts off.
abbrev pub then_answers : ℕ → Result Line LineFault → Answers → Answers
then_answers n (Ok x) rest = prepend_line x rest
then_answers n (Err fault) rest = end_with (fault_at n (Some (log_cause_of fault)))

-- The answers of the lines from number n on, of which the last is what stands after the last LF.
abbrev pub answers_of : ℕ → List (List ℕ) → InputEnd → Answers
answers_of n [] ending = end_with None
answers_of n (tail ∷ []) ending = end_with (fault_at n (tail_cause tail ending))
answers_of n (l ∷ next ∷ more) ending =
    then_answers n (line_of l) (answers_of (n + 1) (next ∷ more) ending)

-- The answers of the bytes that were got of a log from line n on, by how the input ended after
-- them.
abbrev pub answers_from : ℕ → List ℕ → InputEnd → Answers
answers_from n text ending = answers_of n (slice_split is_lf text) ending

-- The answers of a whole log.
abbrev pub log_answers : List ℕ → InputEnd → Answers
log_answers text ending = answers_from 1 text ending

-- ---- the receptions among the answers

-- The receptions that the lines report, in order.
abbrev pub receptions_of : List Line → List Received
receptions_of [] = []
receptions_of (line.Heard x ∷ lines) = x ∷ receptions_of lines
receptions_of (line.Passed reason ∷ lines) = receptions_of lines
