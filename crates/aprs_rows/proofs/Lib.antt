-- Lemmas of rows.
pub mod Common
pub mod Cases
pub mod Counts
pub mod Digits
pub mod Fronts
pub mod KeyPrefixes
pub mod InStore
pub mod JoinedNames
pub mod Judgements
pub mod Matches
pub mod Merger
pub mod NameRooms
pub mod NameTexts
pub mod Opens
pub mod OpenRows
pub mod Orders
pub mod Packed
mod Places
mod ReceiverNames
pub mod Refusals
pub mod Rows
pub mod SortedTexts
pub mod SoundOrder
pub mod Told
pub mod Unions
