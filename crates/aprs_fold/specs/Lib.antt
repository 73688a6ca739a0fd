-- Definitions that contracts of folds cite.
pub mod Folded
pub mod Folding
pub mod NewRows
pub mod Inputs
pub mod Begun
pub mod Examples
pub mod Fold
pub mod Fronts
pub mod Known
pub mod LastRow
pub mod News
pub mod Range
pub mod Streams
pub mod Taking
pub mod Lent
pub mod Lines
pub mod Cuts
pub mod ReadAt
-- What public clauses cite of lower crates.
pub use Rattle.aprs_transmissions.specs.Row
pub use Rattle.aprs_transmissions.specs.Sound
pub use Rattle.aprs_transmissions.specs.JoinRow
pub use Rattle.aprs_transmissions.specs.Coalescing
pub use Rattle.aprs_transmissions.specs.Together
