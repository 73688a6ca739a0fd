-- What a host reads of how a run ended.
use Rattle.std.specs.Prelude.{◌≡◌, ◌≤◌, ◌<◌, ℕ, List, [], ◌++◌, length, drop, Result, Ok, Err, codes}
use Rattle.aprs_log.specs.Fault.{log_cause_name}
use Rattle.aprs_bookfile.specs.Fault.{book_cause_name}
use Rattle.aprs_runs.specs.ExitStatus.{status_of_fault}
use Rattle.aprs_runs.specs.declared.fault.InputFault.{InputFault}
use Rattle.aprs_runs.specs.declared.fault.InputFault.TheVariants.{Log, Book, Memory, OtherGap, Narrower}
use Rattle.aprs_runs.specs.declared.fault.RunFault.{RunFault}
use Rattle.aprs_runs.specs.declared.fault.RunFault.TheVariants.{Input}
use Rattle.aprs_web.specs.declared.answer.Answer.{Answer}

-- What a run returns.
abbrev pub Outcome : Type 0
Outcome = Result (Unit {0}) RunFault

-- The program's exit status for it.
abbrev pub status_of_outcome : Outcome → ℕ
status_of_outcome (Ok u) = 0
status_of_outcome (Err fault) = status_of_fault fault

-- The number of the input at fault, 0 where none is.
abbrev pub number_at_fault : Outcome → ℕ
number_at_fault (Err (Input index fault)) = index
number_at_fault other = 0

-- The line that an input's fault names, 0 where it names none.
abbrev pub line_of_input : InputFault → ℕ
line_of_input (Log fault) = fault.line
line_of_input (Book fault) = fault.line
line_of_input other = 0

-- The line at fault, 0 where none is.
abbrev pub line_at_fault : Outcome → ℕ
line_at_fault (Err (Input index fault)) = line_of_input fault
line_at_fault other = 0

-- The name of an input's fault, as the program prints it.
abbrev pub name_of_input : InputFault → List ℕ
name_of_input (Log fault) = log_cause_name fault.cause
name_of_input (Book fault) = book_cause_name fault.cause
name_of_input Memory = codes "out of memory"
name_of_input OtherGap = codes "other gap"
name_of_input Narrower = codes "narrower"

-- The name of the fault of an input, nothing where no input is at fault.
abbrev pub name_at_fault : Outcome → List ℕ
name_at_fault (Err (Input index fault)) = name_of_input fault
name_at_fault other = []

-- `count` is how many bytes there are. Where the room has as many or more, they stand first in it,
-- and what comes after them is as before. Where it has fewer, all of it is as before.
pub record StandsIn (bytes : List ℕ) (count : ℕ) (old new : List ℕ) : Type 0 where
  pub counted : count ≡ length bytes
  pub fits : count ≤ length old → new ≡ bytes ++ drop count old
  pub lacks : length old < count → new ≡ old

-- The answer tells this outcome. Of the two rooms the output has the text, if it fits, and the
-- other the name of an input's fault.
pub record Tells (outcome : Outcome) (text : List ℕ) (answer : Answer)
    (output output_now name name_now : List ℕ) : Type 0 where
  pub status : answer.status ≡ status_of_outcome outcome
  pub input : answer.input ≡ number_at_fault outcome
  pub line : answer.line ≡ line_at_fault outcome
  pub written : StandsIn text answer.written output output_now
  pub named : StandsIn (name_at_fault outcome) answer.named name name_now

-- A run that `Does` so ended somehow and wrote some text, and the answer tells it.
abbrev pub TellsRun : (Outcome → List ℕ → Type 0) → Answer → List ℕ → List ℕ → List ℕ → List ℕ
    → Type 0
TellsRun Does answer output output_now name name_now = (outcome : Outcome) × (text : List ℕ)
    × Does outcome text × Tells outcome text answer output output_now name name_now

-- There was no run: the answer is status 2 and nothing else, and both rooms are as before.
pub record TellsNoRun (answer : Answer) (output output_now name name_now : List ℕ) : Type 0 where
  pub said : answer ≡ record { status = 2; input = 0; line = 0; written = 0; named = 0 }
  pub unwritten : output_now ≡ output
  pub unnamed : name_now ≡ name
