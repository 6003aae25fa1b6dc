pub mod Replaced
pub mod InSpace
pub mod Twins
