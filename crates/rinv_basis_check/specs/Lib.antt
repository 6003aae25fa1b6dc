pub mod Listed
pub mod Bases
pub mod Relations
pub mod Multiples
pub mod Whichever
