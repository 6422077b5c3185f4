pub mod FourBytes
mod Nodes
pub mod RecordSpans
pub mod RecordTrip
pub mod Records
mod Refusals
mod Rows
