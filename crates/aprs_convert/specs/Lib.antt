-- Definitions that contracts of conversions and checks cite.
pub mod Monitor
pub mod Conversion
pub mod Check
pub mod Got
pub mod Ends
pub mod Plan
