-- What the command answers: the text, by how it ends.
pub mod Bench
