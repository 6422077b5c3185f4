pub mod Cases
pub mod SetT
