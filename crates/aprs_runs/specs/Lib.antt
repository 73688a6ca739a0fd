-- Definitions that contracts of runs cite.
pub mod ExitStatus
pub mod RunEnds
pub mod Devices
pub mod Head
pub mod Inputs
pub mod Refused
pub mod InputBook
pub mod InputRows
pub mod Several
pub mod Outcome
pub mod Merge
pub mod Fold
pub mod News
pub mod Gathered
pub mod Show
pub mod ToldBook
pub mod HistoryOf
pub mod TableOf
pub mod Extract
pub mod Widen
pub mod Examples
-- What public clauses cite of lower crates.
pub use Rattle.aprs_lists.specs.Listing
pub use Rattle.aprs_table.specs.SpacedLine
pub use Rattle.aprs_table.specs.History
pub use Rattle.aprs_io.specs.Shown
pub use Rattle.aprs_convert.specs.Monitor
pub use Rattle.aprs_convert.specs.Conversion
pub use Rattle.aprs_convert.specs.Check
pub use Rattle.aprs_convert.specs.Got
pub use Rattle.aprs_convert.specs.Ends
pub use Rattle.aprs_arguments.specs.Arguments
pub use Rattle.aprs_fold.specs.Fold as FoldedBooks
pub use Rattle.aprs_fold.specs.News as FoldedNews
