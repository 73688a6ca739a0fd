-- What was gathered of inputs.
use Rattle.std.specs.Prelude.{◌≡◌, ◌≢◌, ℕ, List, [], Option, Result, Ok, Err}
use Rattle.aprs_io.specs.Device.{Sends}
use Rattle.aprs_io.specs.declared.device.Counted.{Counted}
use Rattle.aprs_transmissions.specs.BookValue.{BookValue}
use Rattle.aprs_transmissions.specs.Gap.{millis_of}
use Rattle.aprs_transmissions.specs.JoinRow.{merge}
use Rattle.aprs_transmissions.specs.Row.{Row}
use Rattle.aprs_bookfile.specs.Text.{written_text}
use Rattle.aprs_runs.specs.Devices.{AsksEach}
use Rattle.aprs_runs.specs.Merge.{IsBookOfAll}
use Rattle.aprs_runs.specs.Several.{GotOf, IsFirstRefused}
use Rattle.aprs_runs.specs.declared.fault.InputFault.{InputFault}
use Rattle.aprs_runs.specs.declared.fault.RunFault.TheVariants.{Input}
use Rattle.aprs_runs.specs.declared.gathered.OutputFault.{OutputFault}
use Rattle.aprs_runs.specs.declared.gathered.OutputFault.TheVariants.{Memory, Write}

-- The book that these rows joined.
abbrev pub with_rows : BookValue → List Row → BookValue
with_rows book rows =
    record { gap = book.gap; rows = merge (millis_of book.gap) book.rows rows }

-- The text of the book is written, or a prefix of it where the output was refused. Where an
-- allocation failed, nothing is, and the book has rows.
unfoldable pub WritesText : {W : Type 0} → (W → Option (List ℕ)) → Result (Unit {0}) OutputFault
    → BookValue → Counted W → Counted W → Type 0
WritesText contents (Ok u) book old new =
    Sends {E = OutputFault} contents (Ok u) old new (written_text book)
WritesText contents (Err Write) book old new =
    Sends contents (Err Write) old new (written_text book)
WritesText contents (Err Memory) book old new = (new ≡ old) × (book.rows ≢ [])

-- The one book of faultless inputs is read; otherwise the first that is refused is reported, by
-- number.
abbrev pub ReadsEach : {limit : ℕ} → ℕ → Result BookValue (ℕ × InputFault) → List (GotOf limit)
    → Type 0
ReadsEach gap (Ok book) gots = (book.gap ≡ gap) × IsBookOfAll gap book.rows gots
ReadsEach gap (Err refused) gots = IsFirstRefused gap gots refused.0 refused.1

-- All inputs were read to their ends, or those before the one that is refused, and that one to its
-- fault.
abbrev pub ReadsAll : {A R : Type 0} → Result A (ℕ × InputFault) → List (Counted R)
    → List (Counted R) → Type 0
ReadsAll (Ok value) old new = AsksEach (Ok tt) old new
ReadsAll (Err refused) old new = AsksEach (Err (Input refused.0 refused.1)) old new
