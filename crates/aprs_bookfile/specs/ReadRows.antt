-- Rows that were read of a book's text.
use Rattle.std.specs.Prelude.{◌≡◌, ◌⊎◌, ℕ, ◌+◌, List, [], length, Result, Ok, Err}
use Rattle.aprs_transmissions.specs.BookValue.{BookValue}
use Rattle.aprs_transmissions.specs.Row.{Row}
use Rattle.aprs_bookfile.specs.declared.fault.BookCause.TheVariants as why
use Rattle.aprs_bookfile.specs.declared.fault.BookFault.{BookFault}

-- The book of the gap that was answered and of these rows; or the fault that was answered.
abbrev pub book_read : Result ℕ BookFault → List Row → Result BookValue BookFault
book_read (Ok gap) rows = Ok (record { gap = gap; rows = rows })
book_read (Err fault) rows = Err fault

-- The line with this number comes after those of these rows: it is the first and there are none, or
-- it comes after the header and as many lines as rows.
abbrev pub IsNextLine : ℕ → List Row → Type 0
IsNextLine line rows = ((line ≡ 1) × (rows ≡ [])) ⊎ (line ≡ length rows + 2)

-- Where an allocation failed, there are as many rows as rows' lines stand before the line that the
-- fault names.
abbrev pub StopsAfter : BookFault → List Row → Type 0
StopsAfter fault rows = fault.cause ≡ why.Memory → IsNextLine fault.line rows
