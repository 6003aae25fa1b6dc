-- From a system to the generators of its field of invariants:
--   Symbols       what coefficients are tied to
--   Runs          the two runs of Buchberger's algorithm, with one budget
--   Relations     the relations of the extended ideal, before and after their tails are reduced
--   Numbering     how coefficients are numbered, and the degrees that it meets
--   Found         what was found for a system
--   Halts         why nothing was: the phase, the journal so far and the cause
pub mod Symbols
pub mod Runs
pub mod Relations
pub mod Numbering
pub mod Found
pub mod Halts
pub mod Stopped
pub mod StopsAfter
