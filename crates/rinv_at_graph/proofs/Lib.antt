pub mod ProvedValues
pub mod GroundParts
