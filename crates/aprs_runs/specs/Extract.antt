-- What is written of a book other than its text. No public clause cites this module.
use Rattle.std.specs.Prelude.{ℕ, List}
use Rattle.aprs_log.specs.Reception.{Received}
use Rattle.aprs_transmissions.specs.BookValue.{BookValue}
use Rattle.aprs_lists.specs.Listing.{IsShown}
use Rattle.aprs_runs.specs.HistoryOf.{IsHistoryOf}
use Rattle.aprs_runs.specs.Show.{IsListingOf}
use Rattle.aprs_runs.specs.TableOf.{IsTableOf}
use Rattle.aprs_runs.specs.ToldBook.{IsHistory, IsTable}
use Rattle.aprs_lists.specs.Messages.{IsMessagesTable}
use Rattle.aprs_lists.specs.Things.{IsThingsTable}
use Rattle.aprs_runs.specs.declared.extract.Summarized.{Summarized}
use Rattle.aprs_runs.specs.declared.extract.Summarized.TheVariants as summarized
use Rattle.aprs_runs.specs.declared.extract.Extract.{Extract}
use Rattle.aprs_runs.specs.declared.extract.Extract.TheVariants as extract

-- The text is this extract of the book.
abbrev pub IsExtract : Extract → BookValue → List ℕ → Type 0
IsExtract extract.Listing = IsShown
IsExtract extract.History = IsHistory
IsExtract (extract.Table t) = IsTable t

-- The text is this, written from the book's summary.
abbrev pub IsSummarized : Summarized → BookValue → List ℕ → Type 0
IsSummarized summarized.Listing = IsShown
IsSummarized summarized.Messages = IsMessagesTable
IsSummarized summarized.Things = IsThingsTable

-- The text is this extract of the book of a set under this gap, in seconds.
abbrev pub IsExtractOf : Extract → ℕ → List Received → List ℕ → Type 0
IsExtractOf extract.Listing gap = IsListingOf gap
IsExtractOf extract.History gap = IsHistoryOf gap
IsExtractOf (extract.Table t) gap = IsTableOf t gap
