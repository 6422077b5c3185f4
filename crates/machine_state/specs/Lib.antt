pub mod Bytes
pub mod Counts
pub mod State
