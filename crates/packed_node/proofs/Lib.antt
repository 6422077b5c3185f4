pub mod Heads
pub mod StateTrips
