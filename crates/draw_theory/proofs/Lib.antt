pub mod FirstPairs
pub mod Openings
pub mod Parents
pub mod Hashes
pub mod Nodes
pub mod Clashes
pub mod Answers
pub mod Demand3
