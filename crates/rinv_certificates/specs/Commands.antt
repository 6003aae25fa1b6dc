-- What each command answers: the text, by how it ends.
pub mod Certify
