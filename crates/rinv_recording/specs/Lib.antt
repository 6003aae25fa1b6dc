-- the pairs of a basis as a certificate has them
pub mod Recorded
-- what their making is given
pub mod Settings
-- an entry, step by step
pub mod Divided
-- what they are given and give
pub mod Entries
