-- Generators of the field of invariants, with the proofs of the laws and of their invariance:
--   Generated            the value of `Generators`, and what is known of it
--   Made                 what is made for a system
--   Proving              the degrees that the proofs of generators meet
--   Stops                why there are none
pub mod Generated
pub mod Made
pub mod Proving
pub mod Stops
