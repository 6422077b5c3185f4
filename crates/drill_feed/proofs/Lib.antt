pub mod Holding
pub mod Feeding
pub mod ByLines
