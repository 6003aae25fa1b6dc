pub mod Stored
pub mod Names
pub mod Values
pub mod PartForms
pub mod PartCounts
mod PartsMade
pub mod Misfits
