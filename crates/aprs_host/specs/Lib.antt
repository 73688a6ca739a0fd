-- Definitions that contracts of a program cite.
pub mod Complaint
pub mod Ending
pub mod Note
pub mod Opening
pub mod ProgramName
pub mod Work
