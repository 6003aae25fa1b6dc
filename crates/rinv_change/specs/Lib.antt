pub mod Changes
pub mod Asked
pub mod Cofactors
pub mod Changing
