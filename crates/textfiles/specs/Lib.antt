pub mod Flaws
pub mod Cursors
pub mod Items
pub mod Vectors
pub mod Faults
pub mod Universe
pub mod Writing
pub mod Denotes
