pub mod Summaries
pub mod Counts
pub mod LastFacts
pub mod Outcomes
pub mod Measures
