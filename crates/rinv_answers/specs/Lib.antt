-- From the bytes that a command is given to the text and its ending:
--   Commands      what each command answers, a file a command
--   Told          answers to the text of a system, or to its refusal
--   Budgets       the pairs and steps that a text allows
--   Incomplete    the line of a work that ended before its end
--   LawLines      the lines of laws, and of a line that is refused
--   GeneratorLines    the lines of generators
pub mod Commands
pub mod Told
pub mod Budgets
pub mod Incomplete
pub mod LawLines
pub mod GeneratorLines
