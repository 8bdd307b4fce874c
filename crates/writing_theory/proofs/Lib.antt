pub mod Laid
pub mod Places
pub mod Filing
pub mod Rows
pub mod Calls
pub mod Finished
pub mod Idle
pub mod Editions
