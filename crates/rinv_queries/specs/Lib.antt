-- From a script to the text of its answer and the ending:
--   Outcomes      what a query is answered, and when that is true
--   Lines         the lines of queries, and the texts of the commands
--   Cuts          the degrees that the answer to a query meets, and their line
--   Commands      what each command answers, a file a command
--   Known         what is known of a system whose queries are answered
--   Written       what was written of queries so far
pub mod Outcomes
pub mod Lines
pub mod Cuts
pub mod Commands
pub mod Known
pub mod Written
