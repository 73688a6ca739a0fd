-- How a fold of what is new ends early.
use Rattle.std.specs.Prelude.{◌≡◌, ℕ, List, Option}
use Rattle.aprs_io.specs.declared.device.Counted.{Counted}
use Rattle.aprs_fold.specs.Inputs.{IsRefused}
use Rattle.aprs_fold.specs.News.{LeavesPart}
use Rattle.aprs_fold.specs.declared.fault.FoldFault.{FoldFault}
use Rattle.aprs_runs.specs.Fold.{run_fault_of}
use Rattle.aprs_runs.specs.declared.fault.RunFault.{RunFault}

-- The run's fault is that of a fold: an input is refused for it, or it is `Memory` or `Write`. A
-- part of a book's text was written.
pub record EndsNewsEarly {R W : Type 0} (remaining : R → Option (List ℕ))
    (contents : W → Option (List ℕ)) (limit gap : ℕ) (answer : RunFault)
    (old new : List (Counted R)) (first last : Counted W) : Type 0 where
  pub fault : FoldFault
  pub is : answer ≡ run_fault_of fault
  pub refused : IsRefused remaining limit gap fault old new
  pub left : LeavesPart contents gap fault first last
