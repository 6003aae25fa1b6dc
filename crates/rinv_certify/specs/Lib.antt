-- The certificate of generators:
--   Meets, Stopped       the degrees that its making meets, and what a stop says
--   Parts, Wholes        its parts, as values
--   InSpace, Raising, Terms, Stated      what their functions are given and give, a notion each
pub mod Meets
pub mod Stopped
pub mod Parts
pub mod Wholes
pub mod InSpace
pub mod Raising
pub mod Terms
pub mod Stated
