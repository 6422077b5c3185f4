pub mod Offset
pub mod OneByOne
pub mod Loop
