pub mod Answers
pub mod Changes
pub mod Clock
pub mod Range
pub mod Sleeping
pub mod Step
pub mod Ticks
pub mod Waking
