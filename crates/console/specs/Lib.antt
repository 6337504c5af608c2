pub mod Messages
pub mod Loaded
