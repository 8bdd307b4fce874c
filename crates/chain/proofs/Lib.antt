pub mod Writing
pub mod Inserting
pub mod Rows
