pub mod Runs
pub mod Rows
pub mod Turns
pub mod Plans
