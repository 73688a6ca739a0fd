-- Definitions that contracts of the command line cite.
pub mod Arguments
pub mod Fold
