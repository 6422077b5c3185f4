pub mod Answering
pub mod Find
pub mod Limits
pub mod Profile
pub mod Record
pub mod Rules
