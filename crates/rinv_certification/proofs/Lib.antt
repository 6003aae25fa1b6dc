pub mod CommonParts
pub mod PairParts
pub mod RelationParts
pub mod FullParts
pub mod Accepted
pub mod Writable
