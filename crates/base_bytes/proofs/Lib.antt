pub mod Halves
pub mod Parts
pub mod Puts
pub mod CheckTotals
