pub mod LawNames
pub mod Points
pub mod Substitutions
pub mod Parts
