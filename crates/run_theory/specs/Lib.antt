pub mod Reached
pub mod Runs
pub mod Openings
