-- Expressions in generators that come with their proofs:
--   Expressed    what is answered for a fraction, and why there is no expression
pub mod Expressed
