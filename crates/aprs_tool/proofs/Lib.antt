-- Lemmas of a desk.
pub mod Common
pub mod Merged
