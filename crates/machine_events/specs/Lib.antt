pub mod Events
pub mod Replies
