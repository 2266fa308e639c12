pub mod Restocks
pub mod Headers
pub mod Depths
