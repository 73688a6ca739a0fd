-- What was done to the readers of a run's inputs and to its writer.
use Rattle.std.specs.Prelude.{◌≡◌, ◌⊎◌, ℕ, zero, suc, List, ◌∷◌, length, Result, Ok, Err}
use Rattle.std.specs.List.{AllZip}
use Rattle.aprs_io.specs.Device.{Calls, Going, Fault, End}
use Rattle.aprs_io.specs.declared.device.Counted.{Counted}
use Rattle.aprs_log.specs.Awaits.{last_of_cause}
use Rattle.aprs_bookfile.specs.Asking.{AsksAt}
use Rattle.aprs_runs.specs.declared.fault.InputFault.{InputFault}
use Rattle.aprs_runs.specs.declared.fault.InputFault.TheVariants.{Log, Book, Memory}
use Rattle.aprs_runs.specs.declared.fault.RunFault.{RunFault}
use Rattle.aprs_runs.specs.declared.fault.RunFault.TheVariants.{Input, Write}

-- ---- the inputs

-- What the reader of an input answered last, where the input is refused for this fault as it is
-- read: at a log's fault what `last_of_cause` says of its cause, at a book file's what `AsksAt`
-- says; at `Memory` neither a fault nor the end; at any other fault the end, since a whole book
-- file was read.
abbrev pub AsksToFault : {R : Type 0} → InputFault → Counted R → Counted R → Type 0
AsksToFault (Log fault) old new = Calls (last_of_cause fault.cause) old new
AsksToFault (Book fault) old new = AsksAt fault.cause old new
AsksToFault Memory old new = Calls Going old new
AsksToFault other old new = Calls End old new

-- The rows of the input were read to its end, or to its fault.
abbrev pub AsksRows : {A R : Type 0} → Result A InputFault → Counted R → Counted R → Type 0
AsksRows (Ok value) old new = Calls End old new
AsksRows (Err fault) old new = AsksToFault fault old new

-- As `AsksRows` says; or the input was read to its end before an allocation failed for its book.
abbrev pub AsksInput : {A R : Type 0} → Result A InputFault → Counted R → Counted R → Type 0
AsksInput result old new =
    AsksRows result old new ⊎ ((result ≡ Err Memory) × Calls End old new)

-- Each input was read to its end; or, where one is refused, that one to its fault, each before it
-- to its end, and none after it was asked. No answer names an input that isn't there.
abbrev pub AsksEach : {R : Type 0} → Result (Unit {0}) RunFault → List (Counted R)
    → List (Counted R) → Type 0
AsksEach (Err (Input zero fault)) (r ∷ old) (s ∷ new) = AsksToFault fault r s × (new ≡ old)
AsksEach (Err (Input (suc index) fault)) (r ∷ old) (s ∷ new) =
    Calls End r s × AsksEach (Err (Input index fault)) old new
AsksEach (Err (Input index fault)) old new = ⊥
AsksEach answer old new = AllZip (Calls End) old new

-- As `AsksEach` says; or all inputs were read to their ends before an allocation failed for their
-- book, which is `Memory` of the last input.
abbrev pub AsksMerge : {R : Type 0} → Result (Unit {0}) RunFault → List (Counted R)
    → List (Counted R) → Type 0
AsksMerge answer old new = AsksEach answer old new
    ⊎ ((last : ℕ) × (length old ≡ suc last) × (answer ≡ Err (Input last Memory))
    × AllZip (Calls End) old new)

-- ---- the output

-- At `Ok` no call of the output answered a fault; at `Write` the last one did, and no other; at any
-- other error the output wasn't called.
abbrev pub CallsOutput : {W : Type 0} → Result (Unit {0}) RunFault → Counted W → Counted W → Type 0
CallsOutput (Ok u) old new = Calls Going old new
CallsOutput (Err Write) old new = Calls Fault old new
CallsOutput answer old new = new ≡ old
