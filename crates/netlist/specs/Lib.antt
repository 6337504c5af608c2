pub mod Tokens
pub mod Statements
pub mod Driving
pub mod Reading
pub mod Grammar
