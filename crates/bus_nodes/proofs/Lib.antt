pub mod EachOne
pub mod Resting
pub mod WhoCalls
