pub mod Congruence
pub mod Divisors
