-- How a conversion or a check ends.
use Rattle.std.specs.Prelude.{◌⊎◌, ℕ, List, Option, None, Some, Result, Ok, Err}
use Rattle.std.specs.Io.KnownBytes.{Appends}
use Rattle.aprs_io.specs.declared.device.Counted.{Counted}
use Rattle.aprs_kiss.specs.Device.{AppendsPrefix, Calls, Last, Going, Fault, End}
use Rattle.aprs_log.specs.Awaits.{last_of_cause}
use Rattle.aprs_log.specs.declared.InputEnd.{InputEnd}
use Rattle.aprs_log.specs.declared.fault.LogFault.{LogFault}
use Rattle.aprs_convert.specs.Got.{OfGot}
use Rattle.aprs_convert.specs.declared.fault.ConvertFault.{ConvertFault}
use Rattle.aprs_convert.specs.declared.fault.ConvertFault.TheVariants.{Log, Write}

-- What is to be written went out whole, up to the input's fault where that is the answer; or a
-- prefix of it, where the output was refused.
abbrev pub Ends : (Option LogFault → List ℕ → Type 0) → Result (Unit {0}) ConvertFault
    → Option (List ℕ) → Option (List ℕ) → Type 0
Ends Told (Ok u) old new = (text : List ℕ) × Told None text × Appends old new text
Ends Told (Err (Log fault)) old new =
    (text : List ℕ) × Told (Some fault) text × Appends old new text
Ends Told (Err Write) old new =
    (fault : Option LogFault) × (text : List ℕ) × Told fault text × AppendsPrefix old new text

-- What the input answered last, by the run's answer: where the output was refused, it may have
-- come to the end before or not.
abbrev pub AsksForRun : {R : Type 0} → Result (Unit {0}) ConvertFault → Counted R → Counted R
    → Type 0
AsksForRun (Ok u) old new = Calls End old new
AsksForRun (Err (Log fault)) old new = Calls (last_of_cause fault.cause) old new
AsksForRun (Err Write) old new = Calls Going old new ⊎ Calls End old new

-- What the output answered last, by the run's answer.
abbrev pub last_of_output : Result (Unit {0}) ConvertFault → Last
last_of_output (Err Write) = Fault
last_of_output answer = Going

-- The run wrote what is to be written of what it got of its input. It asked the input no more after
-- its end or a fault, and the output no more after a fault. Its answer tells which of these came,
-- and the counts of the devices show it.
pub record Runs {R W : Type 0} (Told : Option LogFault → List ℕ → InputEnd → List ℕ → Type 0)
    (limit : ℕ) (remaining : R → Option (List ℕ)) (contents : W → Option (List ℕ))
    (answer : Result (Unit {0}) ConvertFault) (read_from now_read : Counted R)
    (written_to now_written : Counted W) : Type 0 where
  pub run : OfGot limit (remaining read_from.device) (remaining now_read.device) (λ text ending.
      Ends (λ fault. Told fault text ending) answer (contents written_to.device)
      (contents now_written.device))
  pub reads : AsksForRun answer read_from now_read
  pub writes : Calls (last_of_output answer) written_to now_written
