-- A conversion or a check, as a run over one input.
use Rattle.aprs_runs.proofs.Common.{Result, Err}
use Rattle.aprs_convert.specs.declared.fault.ConvertFault.{ConvertFault}
use Rattle.aprs_convert.specs.declared.fault.ConvertFault.TheVariants.{Log, Write}
use Rattle.aprs_runs.specs.RunEnds.{AnswersAs, run_fault}

-- a run that ends with the fault of a check or a conversion answers as that does
pub answers_fault : (fault : ConvertFault) (P : Result (Unit {0}) ConvertFault → Type 0)
    → P (Err fault) → AnswersAs (Err (run_fault fault)) P
answers_fault (Log fault) P h = h
answers_fault Write P h = h
