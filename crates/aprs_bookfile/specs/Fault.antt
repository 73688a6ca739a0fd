-- Numbers and names of causes.
use Rattle.std.specs.Prelude.{ℕ, List, codes}
use Rattle.aprs_io.specs.declared.input.InputEnd.{InputEnd}
use Rattle.aprs_io.specs.declared.input.InputEnd.TheVariants as how
use Rattle.aprs_transmissions.specs.declared.row_cause.RowCause.{RowCause}
use Rattle.aprs_transmissions.specs.declared.row_cause.RowCause.TheVariants as row
use Rattle.aprs_bookfile.specs.declared.fault.BookCause.{BookCause}
use Rattle.aprs_bookfile.specs.declared.fault.BookCause.TheVariants as cause

-- The cause's number, in the order in which the causes are declared.
abbrev pub book_cause_number : BookCause → ℕ
book_cause_number cause.Header = 1
book_cause_number cause.RowSyntax = 2
book_cause_number cause.Frame = 3
book_cause_number cause.Order = 4
book_cause_number cause.Span = 5
book_cause_number cause.Near = 6
book_cause_number cause.Receivers = 7
book_cause_number cause.NotGreatest = 8
book_cause_number cause.Ending = 9
book_cause_number cause.After = 10
book_cause_number cause.Read = 11
book_cause_number cause.TooLong = 12
book_cause_number cause.Memory = 13

-- The cause's name, that of its variant.
abbrev pub book_cause_name : BookCause → List ℕ
book_cause_name cause.Header = codes "Header"
book_cause_name cause.RowSyntax = codes "RowSyntax"
book_cause_name cause.Frame = codes "Frame"
book_cause_name cause.Order = codes "Order"
book_cause_name cause.Span = codes "Span"
book_cause_name cause.Near = codes "Near"
book_cause_name cause.Receivers = codes "Receivers"
book_cause_name cause.NotGreatest = codes "NotGreatest"
book_cause_name cause.Ending = codes "Ending"
book_cause_name cause.After = codes "After"
book_cause_name cause.Read = codes "Read"
book_cause_name cause.TooLong = codes "TooLong"
book_cause_name cause.Memory = codes "Memory"

-- Why a row is refused, as the cause of a text's fault.
abbrev pub book_cause_of : RowCause → BookCause
book_cause_of row.Order = cause.Order
book_cause_of row.Span = cause.Span
book_cause_of row.Near = cause.Near
book_cause_of row.Receivers = cause.Receivers
book_cause_of row.NotGreatest = cause.NotGreatest
book_cause_of row.Memory = cause.Memory

-- The cause of a fault where a byte had to come and the input ended so.
abbrev pub ending_cause : InputEnd → BookCause
ending_cause how.End = cause.Ending
ending_cause how.Read = cause.Read
ending_cause how.TooLong = cause.TooLong
