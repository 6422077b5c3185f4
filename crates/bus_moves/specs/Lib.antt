pub mod Encoding
pub mod Decoding
pub mod Records
pub mod Lists
