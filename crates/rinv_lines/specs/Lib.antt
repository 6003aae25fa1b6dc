--   Stopped    an answer in place of what was to be found
--   Pieces     the line of one fraction
pub mod Stopped
pub mod Pieces
