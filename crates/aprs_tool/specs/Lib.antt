-- Definitions that contracts of a desk cite.
pub mod Desk
-- What public clauses cite of lower crates.
pub use Rattle.aprs_convert.specs.Got
pub use Rattle.aprs_runs.specs.Devices
pub use Rattle.aprs_runs.specs.InputBook
