-- What public clauses cite of lower crates.
pub use Rattle.aprs_io.specs.Device
pub use Rattle.aprs_io.specs.Input
pub use Rattle.aprs_bookfile.specs.Asking
pub use Rattle.aprs_bookfile.specs.BookAnswers
pub use Rattle.aprs_bookfile.specs.Seconds
pub use Rattle.aprs_bookfile.specs.Text
