-- What an input's rows make of a book, and why its book isn't merged. A log stands for the set of
-- its receptions, a book file for any set whose book it is.
use Rattle.std.specs.Prelude.{◌≡◌, ◌≢◌, ℕ, List, Option, None, Some, Result, Ok, Err, map}
use Rattle.aprs_io.specs.Input.{Gets}
use Rattle.aprs_io.specs.declared.input.InputEnd.{InputEnd}
use Rattle.aprs_log.specs.LogAnswers.{log_answers, receptions_of}
use Rattle.aprs_log.specs.Reception.{Received}
use Rattle.aprs_transmissions.specs.BookValue.{BookValue}
use Rattle.aprs_transmissions.specs.Coalescing.{StandFor}
use Rattle.aprs_transmissions.specs.JoinRow.{single}
use Rattle.aprs_transmissions.specs.Row.{Row}
use Rattle.aprs_transmissions.specs.declared.merge_fault.MergeFault.{MergeFault}
use Rattle.aprs_transmissions.specs.declared.merge_fault.MergeFault.TheVariants as merge
use Rattle.aprs_runs.specs.Gathered.{with_rows}
use Rattle.aprs_runs.specs.InputBook.{IsGapOf}
use Rattle.aprs_runs.specs.Inputs.{GivesSet}
use Rattle.aprs_runs.specs.Refused.{IsFaulty}
use Rattle.aprs_runs.specs.declared.fault.InputFault.{InputFault}
use Rattle.aprs_runs.specs.declared.fault.InputFault.TheVariants.{Log, Memory}

-- P holds of the text that was got of an input, at most `limit` bytes, and of how the input then
-- ended; `after` is what the device then has.
abbrev pub HoldsOfGot : ℕ → List ℕ → Option (List ℕ) → (List ℕ → InputEnd → Type 0) → Type 0
HoldsOfGot limit input after P =
    (text : List ℕ) × (ending : InputEnd) × Gets limit input after text ending × P text ending

-- A log is refused for the fault after its lines, or because an allocation failed.
abbrev pub IsLogRefused : InputFault → List ℕ → InputEnd → Type 0
IsLogRefused (Log fault) text ending = (log_answers text ending).fault ≡ Some fault
IsLogRefused Memory text ending = Unit {0}
IsLogRefused fault text ending = ⊥

-- At `Ok` the log is faultless, and its receptions join the book, each as a row. Otherwise it is
-- refused, as a faultless one may be too where an allocation failed.
abbrev pub ReadsLog : Result (Unit {0}) InputFault → BookValue → BookValue → List ℕ → InputEnd
    → Type 0
ReadsLog (Ok u) old new text ending = ((log_answers text ending).fault ≡ None)
    × (new ≡ with_rows old (map single (receptions_of (log_answers text ending).given)))
ReadsLog (Err fault) old new text ending = IsLogRefused fault text ending

-- The rows that joined the book stand for a set that the input stands for, under its own gap or the
-- one asked for.
pub record GivesRows (asked own : ℕ) (old new : BookValue) (text : List ℕ) (ending : InputEnd)
    : Type 0 where
  pub gap_is : IsGapOf asked text own
  pub rows : List Row
  pub new_is : new ≡ with_rows old rows
  pub set : List Received
  pub gives : GivesSet own text ending set
  pub stand : StandFor rows set

-- At `Ok` the input is faultless, and its rows are read. Otherwise it is refused, as a faultless
-- one may be too where an allocation failed.
abbrev pub ReadsRows : ℕ → Result ℕ InputFault → BookValue → BookValue → List ℕ → InputEnd → Type 0
ReadsRows asked (Ok own) old new text ending = GivesRows asked own old new text ending
ReadsRows asked (Err fault) old new text ending = IsFaulty fault text ending

-- A merge is refused where the gaps differ, and for an allocation that failed only where they
-- don't.
abbrev pub RefusesGaps : MergeFault → ℕ → ℕ → Type 0
RefusesGaps merge.OtherGap gap other = gap ≢ other
RefusesGaps merge.Memory gap other = gap ≡ other
