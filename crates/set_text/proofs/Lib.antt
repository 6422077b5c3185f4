pub mod ShownSets
pub mod Lines
