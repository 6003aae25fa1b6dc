-- From the words and the source to the sink and the status:
--   Run         what each status says of a run
--   Headlines   the headline of a run
--   Accepted    a run that checks what another one certified
--   Words       the command that words are
--   Statuses    the status of an answer
--   Sent        what came of the writing
pub mod Run
pub mod Headlines
pub mod Accepted
pub mod Words
pub mod Statuses
pub mod Sent
