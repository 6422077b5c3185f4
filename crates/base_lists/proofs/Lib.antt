pub mod AllAny
pub mod Choices
pub mod First
pub mod Rules
pub mod Stores
pub mod Sums
pub mod Tables
pub mod Made
