pub mod CombinedSums
pub mod JournalSteps
pub mod Cofactors
pub mod PairMultipliers
