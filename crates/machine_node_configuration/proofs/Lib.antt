pub mod Laws
pub mod ReadBack
pub mod Vectors
pub mod Ways
