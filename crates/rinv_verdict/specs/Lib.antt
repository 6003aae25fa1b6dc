--   Check    what the command answers
pub mod Check
