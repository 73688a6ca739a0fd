-- Why an input is refused, by the text that was got of it and by what came after that.
use Rattle.std.specs.Prelude.{◌≡◌, ◌≢◌, ◌≤◌, ◌⊎◌, ℕ, true, false, List, length}
use Rattle.aprs_io.specs.Input.{most_input}
use Rattle.aprs_io.specs.declared.input.InputEnd.{InputEnd}
use Rattle.aprs_log.specs.LogText.{HasLogFault}
use Rattle.aprs_log.specs.Reception.{Received}
use Rattle.aprs_transmissions.specs.declared.merge_fault.MergeFault.{MergeFault}
use Rattle.aprs_transmissions.specs.declared.merge_fault.MergeFault.TheVariants as merge
use Rattle.aprs_bookfile.specs.TextFault.{HasBookFault}
use Rattle.aprs_runs.specs.Inputs.{GivesSet, IsBookFileOf, has_book_mark}
use Rattle.aprs_runs.specs.ExitStatus.{status_of_input}
use Rattle.aprs_runs.specs.declared.fault.InputFault.{InputFault}
use Rattle.aprs_runs.specs.declared.fault.InputFault.TheVariants.{Log, Book, Memory, OtherGap}

-- This fault may be answered for an input by itself. If the text that was got has the mark of a
-- book file, that is `Book`, with a fault that the text has as a book file. If not, it is `Log`,
-- with a fault that the text has as a log, or `Memory`, which fits every such text. No other fault
-- fits. That an allocation really failed isn't said here.
abbrev pub IsFaulty : InputFault → List ℕ → InputEnd → Type 0
IsFaulty (Log fault) text ending = (has_book_mark text ≡ false) × HasLogFault text ending fault
IsFaulty (Book fault) text ending = (has_book_mark text ≡ true) × HasBookFault text ending fault
IsFaulty Memory text ending = has_book_mark text ≡ false
IsFaulty fault text ending = ⊥

-- This fault may be answered where a book of this gap is to take the input: `OtherGap` for a book
-- file of another gap; `Memory` for any text without that mark, and for any input that stands for a
-- set; and each fault that may be answered for the input by itself.
abbrev pub IsNotTaken : ℕ → InputFault → List ℕ → InputEnd → Type 0
IsNotTaken gap OtherGap text ending =
    (other : ℕ) × (S : List Received) × (other ≢ gap) × IsBookFileOf other S text ending
IsNotTaken gap Memory text ending =
    IsFaulty Memory text ending ⊎ ((S : List Received) × GivesSet gap text ending S)
IsNotTaken gap fault text ending = IsFaulty fault text ending

-- The fault of an input whose merge is refused.
abbrev pub fault_of_merge : MergeFault → InputFault
fault_of_merge merge.OtherGap = OtherGap
fault_of_merge merge.Memory = Memory

-- An input of at most 1,073,741,824 bytes that stands for a set is refused only where an allocation
-- failed.
abbrev pub HaveNoFault : Type 0
HaveNoFault = (gap : ℕ) (text : List ℕ) (ending : InputEnd) (S : List Received) (fault : InputFault)
    → length text ≤ most_input → GivesSet gap text ending S → IsFaulty fault text ending
    → status_of_input fault ≡ 4
