pub mod Claims
pub mod Reasons
