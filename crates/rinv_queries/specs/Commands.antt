-- What each command answers: the text, by how it ends.
pub mod Script
pub mod Rewrite
pub mod Run
