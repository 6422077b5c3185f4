pub mod FirstBroken
pub mod Bounded
