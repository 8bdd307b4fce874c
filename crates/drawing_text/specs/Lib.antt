pub mod Text
pub mod Plain
pub mod Heads
pub mod Differ
pub mod Verdict
pub mod Info
pub mod Status
