-- Definitions that contracts on devices, inputs and texts cite.
pub mod Cut
pub mod Device
pub mod Hexadecimal
pub mod Input
pub mod InputSteps
pub mod Octet
pub mod Outlet
pub mod Shown
