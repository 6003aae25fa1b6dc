pub mod Limits
pub mod Pieces
pub mod Pages
pub mod Endings
pub mod Shown
pub mod FromPieces
pub mod KnownFacts
pub mod Asked
