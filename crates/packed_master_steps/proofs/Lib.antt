pub mod Aged
pub mod Masters
pub mod Outcomes
pub mod Parts
pub mod Steps
