pub mod Multiplying
pub mod Summing
