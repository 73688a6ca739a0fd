-- Lemmas on what a program does beside its runs.
mod Openings
pub mod Common
