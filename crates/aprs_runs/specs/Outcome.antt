-- How a run ends: what it writes, or why it writes nothing. `Stand` says which sets its inputs
-- stand for, and `Tell` which text is written of a set.
use Rattle.std.specs.Prelude.{◌≡◌, ◌≤◌, ℕ, ◌+◌, ◌*◌, List, length, Option, Result, Ok, Err}
use Rattle.std.specs.Io.KnownBytes.{Appends}
use Rattle.aprs_io.specs.Device.{AppendsPrefix}
use Rattle.aprs_io.specs.declared.device.Counted.{Counted}
use Rattle.aprs_log.specs.Reception.{Received}
use Rattle.aprs_runs.specs.declared.fault.InputFault.{InputFault}
use Rattle.aprs_runs.specs.declared.fault.RunFault.{RunFault}
use Rattle.aprs_runs.specs.declared.fault.RunFault.TheVariants.{Input, Write, Memory}

-- There is a set for which the inputs `Stand`; and for each such set, `Tell` holds of it and of
-- this text.
abbrev pub IsToldOf : (List Received → Type 0) → (List Received → List ℕ → Type 0) → List ℕ → Type 0
IsToldOf Stand Tell text =
    ((S : List Received) × Stand S) × ((S : List Received) → Stand S → Tell S text)

-- A text of which `Told` holds went out whole, or a prefix of it where the output was refused. In
-- all no more tries failed than 999 for each byte of the text, and one more where the output was
-- refused. Of any other answer nothing is said here.
abbrev pub WritesFor : {W : Type 0} → (List ℕ → Type 0) → (W → Option (List ℕ))
    → Result (Unit {0}) RunFault → Counted W → Counted W → Type 0
WritesFor Told contents (Ok u) old new = (text : List ℕ) × Told text
    × Appends (contents old.device) (contents new.device) text
    × (new.failed ≤ old.failed + 999 * length text)
WritesFor Told contents (Err Write) old new = (text : List ℕ) × Told text
    × AppendsPrefix (contents old.device) (contents new.device) text
    × (new.failed ≤ old.failed + (999 * length text + 1))
WritesFor Told contents answer old new = Unit {0}

-- At `Input` the input of that number was refused for this fault; at `Memory` the inputs stand for
-- at least one set. In both cases nothing was written. Of any other answer nothing is said here.
abbrev pub RefusesFor : {W : Type 0} → (List Received → Type 0) → (ℕ → InputFault → Type 0)
    → Result (Unit {0}) RunFault → Counted W → Counted W → Type 0
RefusesFor Stand Refused (Err (Input index fault)) old new = Refused index fault × (new ≡ old)
RefusesFor Stand Refused (Err Memory) old new = ((S : List Received) × Stand S) × (new ≡ old)
RefusesFor Stand Refused answer old new = Unit {0}
