pub mod Graphs
pub mod Stored
