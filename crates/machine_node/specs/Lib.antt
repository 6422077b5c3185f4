pub mod Changes
pub mod Range
pub mod Sending
pub mod Step
pub mod Ticks
pub mod Waking
