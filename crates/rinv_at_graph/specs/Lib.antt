-- values at Z = g, and their cofactors
pub mod AtGraph
-- the quotients that make them
pub mod Quotients
-- what these are made of
pub mod Grounds
-- the point and the values, as they are stored
pub mod Stored
