pub mod Shorter
pub mod Cases
mod Nested
