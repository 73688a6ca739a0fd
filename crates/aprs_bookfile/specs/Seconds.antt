-- Texts of version 1, whose moments are written to the second.
use Rattle.std.specs.Prelude.{◌≡◌, ℕ, ◌*◌, ◌/◌, ◌%◌, ◌≤◌, List, ◌∷◌, ◌++◌, All, map, Result, IfOk}
use Rattle.aprs_io.specs.Octet.{octet}
use Rattle.aprs_log.specs.Moment.{date_text, day_after, moment_text_in, time_text}
use Rattle.aprs_log.specs.Reception.{Received}
use Rattle.aprs_log.specs.declared.moment_form.MomentForm.TheVariants.{Seconds}
use Rattle.aprs_transmissions.specs.Book.{BookOf}
use Rattle.aprs_transmissions.specs.BookValue.{BookValue, Holds}
use Rattle.aprs_transmissions.specs.Gap.{standard_gap}
use Rattle.aprs_transmissions.specs.Row.{Row}
use Rattle.aprs_transmissions.specs.Scaling.{scaled_rows, scaled_heard}
use Rattle.aprs_bookfile.specs.Text.{book_text, IsBookRow}
use Rattle.aprs_bookfile.specs.declared.fault.BookFault.{BookFault}
use Rattle.aprs_bookfile.specs.declared.version.Version.TheVariants.{One}

-- The text is that of version 1 of the book of these receptions, whose moments are in seconds, as
-- the gap is.
pub record IsTextInSeconds (S : List Received) (text : List ℕ) : Type 0 where
  pub rows : List Row
  pub book : BookOf standard_gap S rows
  pub each : All (IsBookRow Seconds) (scaled_rows 1000 rows)
  pub text_is : text ≡ book_text One (scaled_rows 1000 rows)

-- If the text is that of version 1 of the book of a set in seconds, a book that is the answer holds
-- that set. The set's moments are then in milliseconds, and the gap is the standard gap.
abbrev pub ReadsSeconds : List ℕ → Result BookValue BookFault → Type 0
ReadsSeconds text answer = (S : List Received) → IsTextInSeconds S text
    → IfOk answer (λ book. (book.gap ≡ standard_gap) × Holds (map (scaled_heard 1000) S) book)

-- A moment of so many seconds, until the end of 2099, is written as its date and its time of the
-- day, without milliseconds.
abbrev pub AreWrittenToTheSecond : Type 0
AreWrittenToTheSecond = (s : ℕ) → s ≤ 4102444799
    → moment_text_in Seconds (s * 1000)
    ≡ date_text (day_after (s / 86400)) ++ octet "T" ∷ time_text Seconds (s % 86400 * 1000)
