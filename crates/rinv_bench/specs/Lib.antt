-- From a number to the text of its answer and the ending:
--   Summary     numbers of outcomes, the last expression, and the text
--   Last        the query that the last expression answers
--   Cuts        an answer that a limit on degrees cut
--   Commands    what the command answers
pub mod Summary
pub mod Last
pub mod Cuts
pub mod Commands
