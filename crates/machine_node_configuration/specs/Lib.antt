pub mod Responses
pub mod Identity
pub mod Offsets
pub mod Requests
