pub mod Common
pub mod Gathers
pub mod Over
pub mod Sums
