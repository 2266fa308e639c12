pub mod Outlines
pub mod Sums
