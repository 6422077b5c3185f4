pub mod ByRecord
pub mod Encoded
pub mod Steps
pub mod Turns
