pub mod Permissions
pub mod StateTrips
