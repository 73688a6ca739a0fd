-- Lemmas of the book.
mod Entries
mod Searches
mod EntryEnds
pub mod Common
pub mod InStore
pub mod Slots
pub mod Taking
pub mod Replays
pub mod RefusalEnds
pub mod RowsFaults
pub mod Views
