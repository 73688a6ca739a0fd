-- The book that is read of an input, and the book that an input is taken into.
use Rattle.std.specs.Prelude.{◌≡◌, ℕ, false, List, ◌++◌, Result, Ok, Err}
use Rattle.aprs_io.specs.declared.input.InputEnd.{InputEnd}
use Rattle.aprs_log.specs.Reception.{Received}
use Rattle.aprs_transmissions.specs.Book.{BookOf}
use Rattle.aprs_transmissions.specs.BookValue.{BookValue, Holds}
use Rattle.aprs_transmissions.specs.Gap.{millis_of}
use Rattle.aprs_transmissions.specs.Row.{Row}
use Rattle.aprs_runs.specs.Inputs.{GivesSet, has_book_mark}
use Rattle.aprs_runs.specs.Refused.{IsFaulty, IsNotTaken}
use Rattle.aprs_runs.specs.declared.fault.InputFault.{InputFault}

-- The book of a log has the gap that was asked for. Of a book file's gap nothing is said here.
abbrev pub IsGapOf : ℕ → List ℕ → ℕ → Type 0
IsGapOf asked text gap = has_book_mark text ≡ false → gap ≡ asked

-- The book of the input is read, that of each set for which the input stands under the book's gap;
-- or the input is refused.
abbrev pub ReadsInput : ℕ → Result BookValue InputFault → List ℕ → InputEnd → Type 0
ReadsInput asked (Ok book) text ending = IsGapOf asked text book.gap
    × ((S : List Received) × GivesSet book.gap text ending S)
    × ((S : List Received) → GivesSet book.gap text ending S → Holds S book)
ReadsInput asked (Err fault) text ending = IsFaulty fault text ending

-- The input stands for a set, and rows that were the book of S are now that of S and T, for each
-- set T that it stands for; or this fault may be answered for it, and of the rows nothing is said.
abbrev pub TakesInput : ℕ → Result (Unit {0}) InputFault → List Row → List Row → List ℕ → InputEnd
    → Type 0
TakesInput gap (Ok u) old new text ending = ((T : List Received) × GivesSet gap text ending T)
    × ((S T : List Received) → GivesSet gap text ending T → BookOf (millis_of gap) S old
    → BookOf (millis_of gap) (S ++ T) new)
TakesInput gap (Err fault) old new text ending = IsNotTaken gap fault text ending
