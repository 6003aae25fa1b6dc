-- From a command and bytes to the text and its ending, and what the last line `complete` says:
--   Answers       one line a command
--   Inputs        what a command is given
--   Headline      what `complete` says, one line a command
pub mod Answers
pub mod Inputs
pub mod Headline
