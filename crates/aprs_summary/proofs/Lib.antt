-- Lemmas of what rows say.
mod KnownSteps
pub mod IndexSteps
pub mod Common
mod Inserts
mod Addressed
pub mod Stations
pub mod TakenRows
pub mod Collected
pub mod Messages
pub mod SpelledCalls
pub mod TextNumbers
pub mod GreatestAnswers
pub mod MessagesOfSets
pub mod Things
pub mod Noting
pub mod Exchanges
pub mod ReplyTexts
pub mod Worked
pub mod WorkedReplies
pub mod OneReplyAck
