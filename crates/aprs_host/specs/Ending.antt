-- How a program ends.
use Rattle.std.specs.Prelude.{◌≡◌, ℕ, Bool, true, false, List, Option, None, Some, Result, Ok, Err, slice_get, unwrap_or}
use Rattle.aprs_runs.specs.ExitStatus.{status_of_fault}
use Rattle.aprs_runs.specs.declared.fault.RunFault.{RunFault}
use Rattle.aprs_runs.specs.declared.fault.RunFault.TheVariants.{Input}
use Rattle.aprs_host.specs.Complaint.{run_words, standard_input, status, words_of}
use Rattle.aprs_host.specs.declared.complaint.Complaint.{Complaint}
use Rattle.aprs_host.specs.declared.complaint.Complaint.TheVariants as why

-- What is complained of after a run, where `place` is the name of the input at fault: the run's own
-- fault, or else a flush of the output that failed, or nothing.
abbrev pub EndsWith : List ℕ → Result (Unit {0}) RunFault → Bool → Option Complaint → Type 0
EndsWith place (Err fault) flushed (Some complaint) =
    (words_of complaint ≡ run_words place fault) × (status complaint ≡ status_of_fault fault)
EndsWith place (Err fault) flushed None = ⊥
EndsWith place (Ok u) false complaint = complaint ≡ Some why.CannotWrite
EndsWith place (Ok u) true complaint = complaint ≡ None

-- The name of input number `index`, from 0: its path, or `standard input` where there is none.
abbrev pub input_name : List (List ℕ) → ℕ → List ℕ
input_name paths index = unwrap_or (slice_get paths index) standard_input

-- The name of the input at fault after a run, and `standard input` where no input is at fault.
abbrev pub place_at_fault : List (List ℕ) → Result (Unit {0}) RunFault → List ℕ
place_at_fault paths (Err (Input index fault)) = input_name paths index
place_at_fault paths other = standard_input
