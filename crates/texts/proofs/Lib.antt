pub mod Fronts
pub mod LineTurns
pub mod NameBytes
pub mod Risen
