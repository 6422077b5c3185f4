pub mod Words
pub mod Long
pub mod Examples
