pub mod Verdicts
pub mod Setting
pub mod LawLists
pub mod Failures
