-- What is asked of the reader of a book's text, and what is taken of it.
use Rattle.std.specs.Prelude.{◌≡◌, ◌⊎◌, ℕ, ◌+◌, ◌≤◌, List, length, drop, Option, Some, IfSome, Result, Ok, Err}
use Rattle.aprs_io.specs.Device.{Calls, Going, Fault, End}
use Rattle.aprs_io.specs.declared.device.Counted.{Counted}
use Rattle.aprs_transmissions.specs.BookValue.{BookValue}
use Rattle.aprs_bookfile.specs.declared.fault.BookCause.{BookCause}
use Rattle.aprs_bookfile.specs.declared.fault.BookCause.TheVariants as why
use Rattle.aprs_bookfile.specs.declared.fault.BookFault.{BookFault}

-- What the reader answered last at a fault of this cause: at `Read` a fault; at `Ending` no fault;
-- at any other cause neither a fault nor the end.
abbrev pub AsksAt : {R : Type 0} → BookCause → Counted R → Counted R → Type 0
AsksAt why.Read old new = Calls Fault old new
AsksAt why.Ending old new = Calls Going old new ⊎ Calls End old new
AsksAt cause old new = Calls Going old new

-- What the reader answered last: its end where a book was read, and at a fault what its cause says.
abbrev pub Asks : {R : Type 0} → Result BookValue BookFault → Counted R → Counted R → Type 0
Asks (Ok book) old new = Calls End old new
Asks (Err fault) old new = AsksAt fault.cause old new

-- Of this input at most so many bytes were taken.
abbrev pub TakesAtMost : ℕ → List ℕ → Option (List ℕ) → Type 0
TakesAtMost most input after = IfSome after (λ rest. length input ≤ most + length rest)

-- What was taken of the input at a fault of this cause: where it is too long, all bytes that may be
-- taken and just one more; else no more than these.
abbrev pub TakesAt : BookCause → ℕ → List ℕ → Option (List ℕ) → Type 0
TakesAt why.TooLong most input after = after ≡ Some (drop (most + 1) input)
TakesAt cause most input after = TakesAtMost most input after

-- What was taken of the input, of which at most so many bytes may be taken.
abbrev pub Takes : Result BookValue BookFault → ℕ → List ℕ → Option (List ℕ) → Type 0
Takes (Ok book) most input after = TakesAtMost most input after
Takes (Err fault) most input after = TakesAt fault.cause most input after
