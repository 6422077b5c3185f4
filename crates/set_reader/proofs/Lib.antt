pub mod Accepted
pub mod ReadResults
pub mod Content
pub mod Filler
pub mod Refusals
pub mod SetRecord
