pub mod Steps
mod Forms
mod Tags
mod Comments
mod References
mod Shapes
pub mod Unique
mod Texts
mod Contents
mod Elements
mod Documents
mod Walks
pub mod ChildWalks
