pub mod Messages
pub mod Moves
pub mod Applications
pub mod Passed
pub mod Pulses
pub mod Range
pub mod Ticks
pub mod World
