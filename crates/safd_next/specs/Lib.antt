pub mod Commands
pub mod Messages
