pub mod Forms
pub mod ItemForms
pub mod LawShapes
pub mod Stops
pub mod Sized
pub mod Trimmed
