pub mod Refusals
pub mod Meaning
pub mod Kinds
pub mod Sentences
