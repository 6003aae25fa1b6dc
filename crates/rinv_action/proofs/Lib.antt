pub mod BlockSizes
pub mod Generators
pub mod ActionFacts
