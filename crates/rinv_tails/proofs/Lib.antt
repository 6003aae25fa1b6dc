pub mod Tails
pub mod Gaps
pub mod AddedTerms
pub mod Multiples
pub mod Steps
pub mod ReducedLists
