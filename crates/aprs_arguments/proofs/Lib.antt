-- Lemmas on arguments that are refused.
mod Refusals
-- A command as it is made step by step.
mod Commands
pub mod Common
