-- Rational expressions of invariants in the generators:
--   Symbols       polynomials in Z over those in the symbols
--   Terms         terms of such polynomials
--   Prepared      the relations with symbols, made ready for division
--   Taken         the expression that is taken for an invariant
--   Needed        the degrees that are met on the way to it
--   Answers       what is answered for an invariant
--   Stops         why there is none
--   Rewritten     what the functions are given and give
pub mod Symbols
pub mod Terms
pub mod Prepared
pub mod Taken
pub mod Needed
pub mod Answers
pub mod Stops
pub mod Rewritten
