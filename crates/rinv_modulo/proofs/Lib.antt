pub mod Congruences
pub mod Powers
pub mod Halves
pub mod TermValues
