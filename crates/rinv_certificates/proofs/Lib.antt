pub mod PrintedTexts
pub mod Halts
