pub mod Events
pub mod Offsets
pub mod Replies
pub mod States
