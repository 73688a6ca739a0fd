-- Definitions that contracts of callsigns and frames cite.
pub mod Order
pub mod Callsign
pub mod Address
pub mod Frame
pub mod FrameFault
pub mod FrameRef
pub mod UiFrame
pub mod Fault
pub mod Scan
pub mod Plain
pub mod Laws
pub mod Hop
pub mod Examples
pub mod CallText
pub mod Making
