-- the certificate that a value stands for
pub mod Seen
-- as what its parts are read and written
pub mod Shaped
pub mod KeySets
-- what an answer of the reader says
pub mod Faults
-- its parts, as they are read and written
pub mod Parts
