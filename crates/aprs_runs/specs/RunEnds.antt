-- How a conversion or a check ends as a run.
use Rattle.std.specs.Prelude.{zero, Result, Ok, Err}
use Rattle.aprs_convert.specs.declared.fault.ConvertFault.{ConvertFault}
use Rattle.aprs_convert.specs.declared.fault.ConvertFault.TheVariants as convert
use Rattle.aprs_runs.specs.declared.fault.InputFault.TheVariants.{Log}
use Rattle.aprs_runs.specs.declared.fault.RunFault.{RunFault}
use Rattle.aprs_runs.specs.declared.fault.RunFault.TheVariants.{Input, Write}

-- P holds of the run's answer, taken as that of a conversion or a check: a fault of the log is one
-- of input 0, and the only other error is `Write`.
abbrev pub AnswersAs : Result (Unit {0}) RunFault → (Result (Unit {0}) ConvertFault → Type 0)
    → Type 0
AnswersAs (Ok u) P = P (Ok u)
AnswersAs (Err (Input zero (Log fault))) P = P (Err (convert.Log fault))
AnswersAs (Err Write) P = P (Err convert.Write)
AnswersAs answer P = ⊥

-- The fault of a conversion or a check, as that of a run: its one input is number 0.
abbrev pub run_fault : ConvertFault → RunFault
run_fault (convert.Log fault) = Input 0 (Log fault)
run_fault convert.Write = Write
