pub mod Bytes
pub mod Check
pub mod Limits
pub mod Puts
