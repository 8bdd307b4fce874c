pub mod Reading
pub mod Resuming
pub mod Openings
