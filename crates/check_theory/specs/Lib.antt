pub mod IsProof
pub mod Heads
pub mod TreeFile
