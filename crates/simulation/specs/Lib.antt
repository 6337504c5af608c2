pub mod Lanes
pub mod Members
pub mod Rows
pub mod Refusals
pub mod Checks
pub mod Laws
