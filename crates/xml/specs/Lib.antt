pub mod Bytes
pub mod Grammar
pub mod Ahead
pub mod Reads
pub mod Forms
pub mod Walks
pub mod Elements
pub mod Children
