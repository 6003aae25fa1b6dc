pub mod Pools
pub mod Slots
pub mod Chains
pub mod Growing
pub mod Runs
