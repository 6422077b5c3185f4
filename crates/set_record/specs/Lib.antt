pub mod Entries
pub mod Offsets
pub mod Record
pub mod RowsRefusal
