pub mod Each
pub mod Nodes
pub mod Pulses
pub mod Resting
pub mod Ticks
