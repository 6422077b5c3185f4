pub mod Appends
pub mod Digits
pub mod Equal
