pub mod Queries
pub mod Words
pub mod Scripts
pub mod ScriptTexts
pub mod Stored
pub mod Kept
