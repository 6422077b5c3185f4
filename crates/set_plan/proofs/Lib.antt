pub mod Accepted
pub mod Addresses
pub mod InUse
pub mod Lengths
pub mod Lookups
pub mod RisingRows
pub mod Rows
pub mod Unused
