pub mod Awake
pub mod Clock
pub mod InRange
pub mod InRun
pub mod NoBearing
pub mod TableLengths
pub mod Refusals
